use Rattle.std.proofs.Common.{◌≡◌, Option, Some, sym, ap, ◌∙◌, rules}
use Rattle.std.proofs.lemmas.Result.{IfOk-weaker}
use Rattle.pointer_rules.specs.AbstractValues.{AbstractValue}
use Rattle.transfer_rules.specs.Remains.{goes_on}
use Rattle.transfer_rules.specs.Evaluating.{operated}
use Rattle.step_statements.specs.Found.{found, two_operands}
use Rattle.step_statements.proofs.FoundLaws.{two_told}
use Rattle.step_statements.proofs.operating.at_two.Goals as goal

pub returns : goal.returns
returns c =
    let x = c.in-Some.x in
    let y = c.in-Some-value.y in
    let f = c.args.a.1 in
    let g = c.args.b.1 in
    let further = operated c.args.op c.args.sizes.now in
    let of_x : c.args.a.0 ≡ Some x = search rules in
    let of_y : c.args.b.0 ≡ Some y = search rules in
    let told = two_told x y f g c.union-both.result further c.union-both.ensures
    ∙ (ap (λ (o : Option AbstractValue). goes_on (two_operands (record { left = o; faults = f }) (record { left = Some y; faults = g })) further) (sym of_x)
    ∙ ap (λ (o : Option AbstractValue). goes_on (two_operands (found c.args.a) (record { left = o; faults = g })) further) (sym of_y)) in
    IfOk-weaker c.applied.result _ (λ answer. found answer ≡ goes_on (two_operands (found c.args.a) (found c.args.b)) further) (λ answer is. is ∙ told) c.applied.ensures
