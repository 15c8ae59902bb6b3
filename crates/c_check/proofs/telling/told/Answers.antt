-- The first fault is told by its name or its place.
use Rattle.std.proofs.Common.{List, ℕ, Some, ap, sym, ◌∙◌}
use Rattle.c_unit.specs.Units.{Word, unit_of}
use Rattle.c_rules.specs.Names.{text_at}
use Rattle.c_rules.specs.Programs as checks
use Rattle.c_scopes.specs.FirstFault.{fault_of}
use Rattle.c_check.proofs.telling.told.Goals as goal

pub returns-in-Ok : goal.returns-in-Ok
returns-in-Ok c = λ root.
    let unit = unit_of c.args.unit.now in
    let name = c.in-Ok.ensures ∙ c.text_at.ensures ∙ ap (λ (words : List Word). text_at words c.in-Unknown.token) c.of-words.ensures in
    checks.by_text
    (ap (checks.told unit) (c.requires ∙ ap (λ fault. Some (fault_of fault)) c.in-Unknown.is) ∙ ap (λ (text : List ℕ). Some (checks.UnknownName text)) (sym name))

pub returns-in-Ok-new : goal.returns-in-Ok-new
returns-in-Ok-new c = λ root.
    let unit = unit_of c.args.unit.now in
    let name = c.in-Ok-new.ensures ∙ c.text_at-in-Duplicate.ensures ∙ ap (λ (words : List Word). text_at words c.in-Duplicate.token) c.of-words.ensures in
    checks.by_text
    (ap (checks.told unit) (c.requires ∙ ap (λ fault. Some (fault_of fault)) c.in-Duplicate.is) ∙ ap (λ (text : List ℕ). Some (checks.DuplicateName text)) (sym name))

pub returns-in-Mistyped : goal.returns-in-Mistyped
returns-in-Mistyped c = λ root.
    let unit = unit_of c.args.unit.now in
    checks.by_text
    (ap (checks.told unit) (c.requires ∙ ap (λ fault. Some (fault_of fault)) c.in-Mistyped.is) ∙ ap (λ place. Some (checks.MistypedAt place)) (sym c.place_at.ensures))
