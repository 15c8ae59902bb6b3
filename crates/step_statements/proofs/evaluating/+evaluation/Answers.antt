use Rattle.std.proofs.Common.{◌≡◌, refl, List, map, sym, ap, subst, ◌∙◌, arith, rules}
use Rattle.std.specs.Prelude.{IfOk}
use Rattle.alf_ops.specs.Table.{operand_sizes}
use Rattle.alf_program.specs.Tree.{NumberedExpression, Load, Empty, With, expressions_of}
use Rattle.alf_check.specs.declared.rows.Term.{Term}
use Rattle.alf_check.specs.declared.rows.Term.TheFolds.{fold-roll-Term}
use Rattle.alf_check.specs.declared.rows.Term.TheVariants as terms
use Rattle.alf_check.specs.declared.rows.Term.TheViews.{the_lemmas}
use Rattle.alf_check.specs.CheckedPrograms.{term_of, term_step}
use Rattle.std.specs.List.{AllZip}
use Rattle.pointer_rules.specs.AbstractValues.{AbstractValue, HasSize}
use Rattle.transfer_rules.specs.Remains.{Remains, goes_on}
use Rattle.transfer_rules.specs.Evaluating.{operated}
use Rattle.step_statements.specs.Typed.{AreTyped, IsTyped}
use Rattle.step_statements.specs.Found.{found, one_operand, two_operands, three_operands}
use Rattle.step_statements.proofs.TypedLaws.{first_typed, second_typed, third_typed, few_terms, one_member, two_members, three_members, load_sized, operands_typed, operands_sized, one_sized, two_sized, three_sized, one_found, two_found, three_found}
use Rattle.step_statements.proofs.evaluating.+evaluation.Goals as goal

pub evaluate-evaluate_load-requires : goal.evaluate-evaluate_load-requires
evaluate-evaluate_load-requires t c =
    let same : term_of c.args.term.now ≡ Load c.in-Load.size (term_of c.in-Load.at.value) =
    ap term_of c.in-Load.is ∙ (ap term_of (sym (terms.rolls-Load c.in-Load.size c.in-Load.at)) ∙ fold-roll-Term NumberedExpression term_step _) in
    let at : c.deref.result.now ≡ c.in-Load.at.value = search rules in
    (search (rules, the_lemmas), (subst (λ (e : Term). IsTyped (Load c.in-Load.size (term_of e))) (sym at) (subst IsTyped same c.requires.typed), c.requires.kept))

pub evaluate_load-load-requires-clause-place : goal.evaluate_load-load-requires-clause-place
evaluate_load-load-requires-clause-place t c =
    load_sized c.args.memory.now (Load c.args.size (term_of c.args.at.now)) (term_of c.args.at.now) c.args.size c.in_ok-place.place c.requires.kept c.requires.typed refl (search rules)

pub evaluate-operate-requires : goal.evaluate-operate-requires
evaluate-operate-requires t c = (
  search (rules, the_lemmas),
  operands_typed (term_of c.args.term.now) c.in-Apply.op c.in-Apply.sizes.items c.deref-in-Apply.result.now c.in-Apply.operands.items c.deref-in-Apply-2.result.now c.requires.typed
      (ap term_of c.in-Apply.is ∙ (ap term_of (sym (terms.rolls-Apply c.in-Apply.op c.in-Apply.sizes c.in-Apply.operands)) ∙ fold-roll-Term NumberedExpression term_step _))
      c.deref-in-Apply.ensures.value c.deref-in-Apply-2.ensures.value c.requires.kept,
)

pub operate-evaluate-requires-in-len2 : goal.operate-evaluate-requires-in-len2
operate-evaluate-requires-in-len2 t c =
    let sizes = operand_sizes c.args.op c.args.sizes.now in
    let a = c.a-item-then-terms-lt3.result in
    let b = c.b-item.result in
    let split = two_members c.args.terms.now a b c.in-len2.len_at_least c.in-len2.len_below c.a-item-then-terms-lt3.is c.b-item.is in
    let typed = subst (λ (ts : List Term). AreTyped sizes (expressions_of (map term_of ts))) split c.requires.typed in
    (search rules, (first_typed sizes (term_of a) (With (term_of b) Empty) typed, c.requires.kept))

pub operate-evaluate-requires-in-len2-2 : goal.operate-evaluate-requires-in-len2-2
operate-evaluate-requires-in-len2-2 t c =
    let sizes = operand_sizes c.args.op c.args.sizes.now in
    let a = c.a-item-then-terms-lt3.result in
    let b = c.b-item.result in
    let split = two_members c.args.terms.now a b c.in-len2.len_at_least c.in-len2.len_below c.a-item-then-terms-lt3.is c.b-item.is in
    let typed = subst (λ (ts : List Term). AreTyped sizes (expressions_of (map term_of ts))) split c.requires.typed in
    (search rules, (second_typed sizes (term_of a) (term_of b) Empty typed, c.requires.kept))

pub operate-evaluate-requires-in-len3-3 : goal.operate-evaluate-requires-in-len3-3
operate-evaluate-requires-in-len3-3 t c =
    let sizes = operand_sizes c.args.op c.args.sizes.now in
    let x = c.a-item-then-terms-lt4.result in
    let y = c.b-item-then-terms-lt4.result in
    let z = c.c-item.result in
    let split = three_members c.args.terms.now x y z c.in-len3.len_at_least c.in-len3.len_below c.a-item-then-terms-lt4.is c.b-item-then-terms-lt4.is c.c-item.is in
    let typed = subst (λ (ts : List Term). AreTyped sizes (expressions_of (map term_of ts))) split c.requires.typed in
    (search rules, (third_typed sizes (term_of x) (term_of y) (term_of z) Empty typed, c.requires.kept))

pub operate-at_one-requires-clause-sized : goal.operate-at_one-requires-clause-sized
operate-at_one-requires-clause-sized t c =
    let sizes = operand_sizes c.args.op c.args.sizes.now in
    let es = expressions_of (map term_of c.args.terms.now) in
    let x = c.in_ok-a-in-len1.a in
    let a = c.a-item.result in
    let split = one_member c.args.terms.now a c.in-len1.len_at_least c.in-len1.len_below c.a-item.is in
    one_sized (AllZip (λ size v. HasSize v size) sizes) x (operands_sized c.args.memory.now sizes es (one_operand (found x)) c.requires.kept c.requires.typed
    (one_found c.args.memory.now c.args.terms.now a x split c.in_ok-a-in-len1.ensures))

pub operate-at_two-requires-clause-sized : goal.operate-at_two-requires-clause-sized
operate-at_two-requires-clause-sized t c =
    let sizes = operand_sizes c.args.op c.args.sizes.now in
    let es = expressions_of (map term_of c.args.terms.now) in
    let x = c.in_ok-a-in-len2.a in
    let y = c.in_ok-b-in-len2.b in
    let a = c.a-item-then-terms-lt3.result in
    let b = c.b-item.result in
    let split = two_members c.args.terms.now a b c.in-len2.len_at_least c.in-len2.len_below c.a-item-then-terms-lt3.is c.b-item.is in
    two_sized (AllZip (λ size v. HasSize v size) sizes) x y (operands_sized c.args.memory.now sizes es (two_operands (found x) (found y)) c.requires.kept c.requires.typed
    (two_found c.args.memory.now c.args.terms.now a b x y split c.in_ok-a-in-len2.ensures c.in_ok-b-in-len2.ensures))

pub operate-at_three-requires-clause-sized : goal.operate-at_three-requires-clause-sized
operate-at_three-requires-clause-sized t c =
    let sizes = operand_sizes c.args.op c.args.sizes.now in
    let es = expressions_of (map term_of c.args.terms.now) in
    let u = c.in_ok-a-in-len3.a in
    let v = c.in_ok-b-in-len3.b in
    let w = c.in_ok-c-in-len3.c in
    let x = c.a-item-then-terms-lt4.result in
    let y = c.b-item-then-terms-lt4.result in
    let z = c.c-item.result in
    let split = three_members c.args.terms.now x y z c.in-len3.len_at_least c.in-len3.len_below c.a-item-then-terms-lt4.is c.b-item-then-terms-lt4.is c.c-item.is in
    three_sized (AllZip (λ size o. HasSize o size) sizes) u v w (operands_sized c.args.memory.now sizes es (three_operands (found u) (found v) (found w)) c.requires.kept c.requires.typed
    (three_found c.args.memory.now c.args.terms.now x y z u v w split c.in_ok-a-in-len3.ensures c.in_ok-b-in-len3.ensures c.in_ok-c-in-len3.ensures))

pub operate-returns-in_ok-a-in-len1 : goal.operate-returns-in_ok-a-in-len1
operate-returns-in_ok-a-in-len1 t c =
    let x = c.in_ok-a-in-len1.a in
    let a = c.a-item.result in
    let split = one_member c.args.terms.now a c.in-len1.len_at_least c.in-len1.len_below c.a-item.is in
    subst (λ (r : Remains (List AbstractValue)). IfOk c.at_one.result (λ answer. found answer ≡ goes_on r (operated c.args.op c.args.sizes.now)))
    (one_found c.args.memory.now c.args.terms.now a x split c.in_ok-a-in-len1.ensures) c.at_one.ensures

pub operate-returns-in_ok-b-in-len2 : goal.operate-returns-in_ok-b-in-len2
operate-returns-in_ok-b-in-len2 t c =
    let x = c.in_ok-a-in-len2.a in
    let y = c.in_ok-b-in-len2.b in
    let a = c.a-item-then-terms-lt3.result in
    let b = c.b-item.result in
    let split = two_members c.args.terms.now a b c.in-len2.len_at_least c.in-len2.len_below c.a-item-then-terms-lt3.is c.b-item.is in
    subst (λ (r : Remains (List AbstractValue)). IfOk c.at_two.result (λ answer. found answer ≡ goes_on r (operated c.args.op c.args.sizes.now)))
    (two_found c.args.memory.now c.args.terms.now a b x y split c.in_ok-a-in-len2.ensures c.in_ok-b-in-len2.ensures) c.at_two.ensures

pub operate-returns-in_ok-c-in-len3 : goal.operate-returns-in_ok-c-in-len3
operate-returns-in_ok-c-in-len3 t c =
    let u = c.in_ok-a-in-len3.a in
    let v = c.in_ok-b-in-len3.b in
    let w = c.in_ok-c-in-len3.c in
    let x = c.a-item-then-terms-lt4.result in
    let y = c.b-item-then-terms-lt4.result in
    let z = c.c-item.result in
    let split = three_members c.args.terms.now x y z c.in-len3.len_at_least c.in-len3.len_below c.a-item-then-terms-lt4.is c.b-item-then-terms-lt4.is c.c-item.is in
    subst (λ (r : Remains (List AbstractValue)). IfOk c.at_three.result (λ answer. found answer ≡ goes_on r (operated c.args.op c.args.sizes.now)))
    (three_found c.args.memory.now c.args.terms.now x y z u v w split c.in_ok-a-in-len3.ensures c.in_ok-b-in-len3.ensures c.in_ok-c-in-len3.ensures) c.at_three.ensures

pub operate-unreachable-requires-in-len4-up : goal.operate-unreachable-requires-in-len4-up
operate-unreachable-requires-in-len4-up t c =
    let few = few_terms c.args.op c.args.sizes.now c.args.terms.now c.requires.typed in
    let most = few.few in
    absurd (omega arith)
