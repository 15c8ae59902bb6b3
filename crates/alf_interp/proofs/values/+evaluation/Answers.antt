use Rattle.std.proofs.Common.{List, map, Result, sym, ap, ◌∙◌, subst, arith, rules}
use Rattle.alf_ops.specs.declared.history.Value.{Value}
use Rattle.alf_ops.specs.declared.history.RunFault.{RunFault}
use Rattle.alf_ops.specs.Table.{operand_sizes}
use Rattle.alf_ops.specs.Pointers.{operands, outcome_of_operands}
use Rattle.alf_program.specs.Tree.{Empty, With, expressions_of}
use Rattle.alf_check.specs.declared.rows.Term.{Term}
use Rattle.alf_check.specs.CheckedPrograms.{term_of}
use Rattle.alf_values.specs.Memories.{shapes}
use Rattle.alf_runs.specs.Expressions.{results_of}
use Rattle.alf_interp.specs.Typed.{AreTyped}
use Rattle.alf_interp.proofs.Typing.{first_typed, second_typed, few_terms, two_members, three_members, fit_two, fit_three, results_three}
use Rattle.alf_interp.proofs.values.+evaluation.Goals as goal

pub operate-evaluate-requires-in-len2 : goal.operate-evaluate-requires-in-len2
operate-evaluate-requires-in-len2 t c =
    let sizes = operand_sizes c.args.op c.args.sizes.now in
    let a = c.a-item-then-terms-lt3.result in
    let b = c.b-item.result in
    let split = two_members c.args.terms.now a b c.in-len2.len_at_least c.in-len2.len_below c.a-item-then-terms-lt3.is c.b-item.is in
    let typed = subst (λ (ts : List Term). AreTyped sizes (expressions_of (map term_of ts))) split c.requires.typed in
    (search rules, (first_typed sizes (term_of a) (With (term_of b) Empty) typed, c.requires.remembers))

pub operate-evaluate-requires-in-len2-2 : goal.operate-evaluate-requires-in-len2-2
operate-evaluate-requires-in-len2-2 t c =
    let sizes = operand_sizes c.args.op c.args.sizes.now in
    let a = c.a-item-then-terms-lt3.result in
    let b = c.b-item.result in
    let split = two_members c.args.terms.now a b c.in-len2.len_at_least c.in-len2.len_below c.a-item-then-terms-lt3.is c.b-item.is in
    let typed = subst (λ (ts : List Term). AreTyped sizes (expressions_of (map term_of ts))) split c.requires.typed in
    (search rules, (second_typed sizes (term_of a) (term_of b) Empty typed, c.requires.remembers))

pub operate-applied-requires-in-len2-clause-fitting : goal.operate-applied-requires-in-len2-clause-fitting
operate-applied-requires-in-len2-clause-fitting t c =
    let sizes = operand_sizes c.args.op c.args.sizes.now in
    let a = c.a-item-then-terms-lt3.result in
    let b = c.b-item.result in
    let split = two_members c.args.terms.now a b c.in-len2.len_at_least c.in-len2.len_below c.a-item-then-terms-lt3.is c.b-item.is in
    let typed = subst (λ (ts : List Term). AreTyped sizes (expressions_of (map term_of ts))) split c.requires.typed in
    let history = c.requires.remembers.history in
    let stands = c.requires.remembers.stands in
    fit_two (shapes c.args.frames.now) history c.values_have_their_size.ensures.operands sizes (term_of a) (term_of b) typed stands.sound c.evaluate-in-len2.result c.evaluate-in-len2-2.result
    (c.evaluate-in-len2.ensures history stands) (c.evaluate-in-len2-2.ensures history stands)

pub operate-applied-requires-in-len3-clause-fitting : goal.operate-applied-requires-in-len3-clause-fitting
operate-applied-requires-in-len3-clause-fitting t c =
    let sizes = operand_sizes c.args.op c.args.sizes.now in
    let x = c.a-item-then-terms-lt4.result in
    let y = c.b-item-then-terms-lt4.result in
    let z = c.c-item.result in
    let split = three_members c.args.terms.now x y z c.in-len3.len_at_least c.in-len3.len_below c.a-item-then-terms-lt4.is c.b-item-then-terms-lt4.is c.c-item.is in
    let typed = subst (λ (ts : List Term). AreTyped sizes (expressions_of (map term_of ts))) split c.requires.typed in
    let history = c.requires.remembers.history in
    let stands = c.requires.remembers.stands in
    fit_three (shapes c.args.frames.now) history c.values_have_their_size.ensures.operands sizes (term_of x) (term_of y) (term_of z) typed stands.sound
    c.evaluate-in-len3.result c.evaluate-in-len3-2.result c.evaluate-in-len3-3.result
    (c.evaluate-in-len3.ensures history stands) (c.evaluate-in-len3-2.ensures history stands) (c.evaluate-in-len3-3.ensures history stands)

pub operate-unreachable-requires-in-len4-up : goal.operate-unreachable-requires-in-len4-up
operate-unreachable-requires-in-len4-up t c =
    let few = few_terms c.args.op c.args.sizes.now c.args.terms.now c.requires.typed in
    let most = few.few in
    absurd (omega arith)

pub operate-returns-in-len3 : goal.operate-returns-in-len3
operate-returns-in-len3 t c = λ history stands.
    let x = c.a-item-then-terms-lt4.result in
    let y = c.b-item-then-terms-lt4.result in
    let z = c.c-item.result in
    let split = three_members c.args.terms.now x y z c.in-len3.len_at_least c.in-len3.len_below c.a-item-then-terms-lt4.is c.b-item-then-terms-lt4.is c.c-item.is in
    let frames = shapes c.args.frames.now in
    let give = results_three frames history (term_of x) (term_of y) (term_of z) c.evaluate-in-len3.result c.evaluate-in-len3-2.result c.evaluate-in-len3-3.result
    (c.evaluate-in-len3.ensures history stands) (c.evaluate-in-len3-2.ensures history stands) (c.evaluate-in-len3-3.ensures history stands) in
    c.applied-in-len3.ensures
    ∙ ap (λ (rs : List (Result Value RunFault)). outcome_of_operands c.args.op c.args.sizes.now (operands rs)) give
    ∙ ap (λ (ts : List Term). outcome_of_operands c.args.op c.args.sizes.now (operands (results_of frames history (expressions_of (map term_of ts))))) (sym split)
