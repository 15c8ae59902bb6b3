use Rattle.std.proofs.Common.{Option, sym, ap, subst}
use Rattle.std.specs.Prelude.{IfSome}
use Rattle.alf_check.specs.CheckedPrograms.{term_of}
use Rattle.pointer_rules.specs.AbstractValues.{AbstractValue}
use Rattle.pointer_rules.specs.Covering.{IsValue}
use Rattle.transfer_rules.specs.Remains.{Remains}
use Rattle.branch_refinement.proofs.Reading.{left_sized}
use Rattle.branch_refinement.proofs.sides.load.Goals as goal

pub load_from-requires-clause-address : goal.load_from-requires-clause-address
load_from-requires-clause-address c =
    let typed = c.requires.typed in
    let is = ap (λ (r : Remains AbstractValue). r.left) c.in_ok-at.ensures in
    subst (λ (o : Option AbstractValue). IfSome o (IsValue 32)) (sym is)
    (left_sized c.args.memory.now typed.table typed.function 32 (term_of c.args.at.now) c.requires.kept typed.has.address)
