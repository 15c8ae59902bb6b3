use Rattle.std.proofs.Common.{◌≡◌, Option, Some, sym, ap, subst, ◌∙◌, rules}
use Rattle.std.specs.Prelude.{IfSome}
use Rattle.pointer_rules.specs.AbstractValues.{AbstractValue}
use Rattle.pointer_rules.specs.Covering.{IsValue}
use Rattle.memory_model.specs.KeptMemories.{memory_in, rows_of}
use Rattle.transfer_rules.specs.Remains.{goes_on}
use Rattle.transfer_rules.specs.Evaluating.{loaded}
use Rattle.step_statements.proofs.FoundLaws.{load_found}
use Rattle.step_statements.proofs.evaluating.load.Goals as goal

pub returns-in_ok-value-in-Some : goal.returns-in_ok-value-in-Some
returns-in_ok-value-in-Some c =
    let rows = rows_of c.args.memory.now.checked in
    let m = memory_in c.args.memory.now in
    let faults = c.args.place.1 in
    let is : c.args.place.0 ≡ Some c.in-Some.at = search rules in
    let of_at : IsValue 32 c.in-Some.at = subst (λ (o : Option AbstractValue). IfSome o (IsValue 32)) is c.requires.place in
    rw c.union.ensures (load_found rows m c.args.size c.in-Some.at faults c.in_ok-value-in-Some.more c.in_ok-value-in-Some.value of_at c.in_ok-value-in-Some.ensures.value c.in_ok-value-in-Some.ensures.faults
    ∙ ap (λ (o : Option AbstractValue). goes_on (record { left = o; faults = faults }) (loaded rows m c.args.size)) (sym is))
