use Rattle.std.proofs.Common.{◌≡◌, ◌∷◌, List, Option, Vec, Some, sym, ap, ◌∙◌, rules}
use Rattle.std.specs.Option.{option_map}
use Rattle.std.specs.declared.alloc.Global.{Global}
use Rattle.domain_core.specs.FaultSets.{either}
use Rattle.pointer_rules.specs.AbstractValues.{AbstractValue}
use Rattle.transfer_rules.specs.Remains.{with_faults}
use Rattle.transfer_rules.specs.Evaluating.{before}
use Rattle.step_statements.proofs.FoundLaws.{remains_is, first_found}
use Rattle.step_statements.proofs.operating.put_first.Goals as goal

pub returns-in_ok-insert-in-Some : goal.returns-in_ok-insert-in-Some
returns-in_ok-insert-in-Some c =
    let value = c.args.value in
    let values = c.in-Some.values.items in
    let more = c.args.rest.1 in
    let items : c.insert.new.self.items ≡ value ∷ values = c.in_ok-insert-in-Some.ensures.items in
    let is : c.args.rest.0 ≡ Some c.in-Some.values = search rules in
    remains_is (Some c.insert.new.self.items) (Some (value ∷ values)) c.union-in-Some.result (either c.args.faults more) (ap (λ (xs : List AbstractValue). Some xs) items) c.union-in-Some.ensures
    ∙ first_found value values c.args.faults more
    ∙ ap (λ (o : Option (Vec AbstractValue Global)). with_faults c.args.faults (before (record { left = option_map (λ (xs : Vec AbstractValue Global). xs.items) o; faults = more }) value)) (sym is)
