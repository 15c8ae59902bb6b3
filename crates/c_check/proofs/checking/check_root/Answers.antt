-- A root that is defined has a number.
use Rattle.std.proofs.Common.{is_some, ap, sym, ◌∙◌}
use Rattle.c_unit.specs.Units.{unit_of}
use Rattle.c_rules.specs.Programs as checks
use Rattle.c_check.proofs.Roots.{has_number}
use Rattle.c_check.proofs.checking.check_root.Goals as goal

pub returns-in-Some-clause-rooted : goal.returns-in-Some-clause-rooted
returns-in-Some-clause-rooted c =
    sym (has_number (unit_of c.args.unit.now) c.args.functions.now c.args.root.now c.requires.words c.requires.names) ∙ ap is_some (sym c.number_named.ensures ∙ c.in-Some.is)

pub returns-in-Ok-clause-told : goal.returns-in-Ok-clause-told
returns-in-Ok-clause-told c =
    let none = sym (has_number (unit_of c.args.unit.now) c.args.functions.now c.args.root.now c.requires.words c.requires.names) ∙ ap is_some (sym c.number_named.ensures ∙ c.in-None.is) in
    rw c.in-Ok.ensures (checks.by_root c.requires.sound c.requires.acyclic none)
