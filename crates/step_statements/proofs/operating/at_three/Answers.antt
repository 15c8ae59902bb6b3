use Rattle.std.proofs.Common.{◌≡◌, Option, Some, None, sym, ap, ◌∙◌, rules}
use Rattle.std.proofs.lemmas.Result.{IfOk-weaker}
use Rattle.pointer_rules.specs.AbstractValues.{AbstractValue}
use Rattle.transfer_rules.specs.Remains.{goes_on}
use Rattle.transfer_rules.specs.Evaluating.{operated}
use Rattle.step_statements.specs.Found.{found, three_operands}
use Rattle.step_statements.proofs.FoundLaws.{three_told, three_end}
use Rattle.step_statements.proofs.operating.at_three.Goals as goal

pub returns-in_default-value-2 : goal.returns-in_default-value-2
returns-in_default-value-2 c =
    let x = c.in-Some.x in
    let y = c.in-Some-value.y in
    let f = c.args.a.1 in
    let g = c.args.b.1 in
    let h = c.args.c.1 in
    let further = operated c.args.op c.args.sizes.now in
    let of_x : c.args.a.0 ≡ Some x = search rules in
    let of_y : c.args.b.0 ≡ Some y = search rules in
    let of_z : c.args.c.0 ≡ None = search rules in
    three_end x y f g h c.union-both.result c.union-all.result further c.union-both.ensures c.union-all.ensures
    ∙ (ap (λ (o : Option AbstractValue). goes_on (three_operands (record { left = o; faults = f }) (record { left = Some y; faults = g }) (record { left = None; faults = h })) further) (sym of_x)
    ∙ (ap (λ (o : Option AbstractValue). goes_on (three_operands (found c.args.a) (record { left = o; faults = g }) (record { left = None; faults = h })) further) (sym of_y)
    ∙ ap (λ (o : Option AbstractValue). goes_on (three_operands (found c.args.a) (found c.args.b) (record { left = o; faults = h })) further) (sym of_z)))

pub returns : goal.returns
returns c =
    let x = c.in-Some.x in
    let y = c.in-Some-value.y in
    let z = c.in-Some-value-2.z in
    let f = c.args.a.1 in
    let g = c.args.b.1 in
    let h = c.args.c.1 in
    let further = operated c.args.op c.args.sizes.now in
    let of_x : c.args.a.0 ≡ Some x = search rules in
    let of_y : c.args.b.0 ≡ Some y = search rules in
    let of_z : c.args.c.0 ≡ Some z = search rules in
    let told = three_told x y z f g h c.union-both.result c.union-all.result further c.union-both.ensures c.union-all.ensures
    ∙ (ap (λ (o : Option AbstractValue). goes_on (three_operands (record { left = o; faults = f }) (record { left = Some y; faults = g }) (record { left = Some z; faults = h })) further) (sym of_x)
    ∙ (ap (λ (o : Option AbstractValue). goes_on (three_operands (found c.args.a) (record { left = o; faults = g }) (record { left = Some z; faults = h })) further) (sym of_y)
    ∙ ap (λ (o : Option AbstractValue). goes_on (three_operands (found c.args.a) (found c.args.b) (record { left = o; faults = h })) further) (sym of_z))) in
    IfOk-weaker c.applied.result _ (λ answer. found answer ≡ goes_on (three_operands (found c.args.a) (found c.args.b) (found c.args.c)) further) (λ answer is. is ∙ told) c.applied.ensures
