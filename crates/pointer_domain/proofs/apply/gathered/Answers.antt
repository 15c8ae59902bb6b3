use Rattle.std.proofs.Common.{map, ap, None}
use Rattle.domain_core.specs.declared.fault_set.FaultSet.{FaultSet}
use Rattle.pointer_rules.specs.Choices.{at_choice, gathered, nothing}
use Rattle.pointer_domain.specs.Parts.{parts_of, outcome_of}
use Rattle.pointer_domain.proofs.PartLists.{first_suits, first_alike, first_gathered}
use Rattle.pointer_domain.proofs.apply.gathered.Goals as goal

pub loop-first-init : goal.loop-first-init
loop-first-init c = record { same = ap (λ (f : FaultSet). gathered (record { value = None; faults = f }) (map (at_choice c.args.op c.args.sizes.now) (map parts_of c.args.all.now))) c.none.ensures; suits = c.requires.suits; is = tt }

pub at_choice-requires-clause-suits : goal.at_choice-requires-clause-suits
at_choice-requires-clause-suits c = first_suits c.args.op c.args.sizes.now (outcome_of c.loop-first.so_far) (gathered nothing (map (at_choice c.args.op c.args.sizes.now) (map parts_of c.args.all.now)))
    c.loop-first.rest.now c.in-Some.further.now c.in-Some.first.now c.deref.result.now c.in-Some.ensures.cases.0 c.deref.ensures.value c.loop-first.invariant

pub united-requires : goal.united-requires
united-requires c = first_alike c.args.op c.args.sizes.now (outcome_of c.loop-first.so_far) (gathered nothing (map (at_choice c.args.op c.args.sizes.now) (map parts_of c.args.all.now)))
    (outcome_of c.in_ok-answer.answer) c.loop-first.rest.now c.in-Some.further.now c.in-Some.first.now c.deref.result.now c.requires.typed c.in-Some.ensures.cases.0 c.deref.ensures.value c.loop-first.invariant c.in_ok-answer.ensures

pub loop-first-preserved : goal.loop-first-preserved
loop-first-preserved c = first_gathered c.args.op c.args.sizes.now (outcome_of c.loop-first.so_far) (gathered nothing (map (at_choice c.args.op c.args.sizes.now) (map parts_of c.args.all.now)))
    (outcome_of c.in_ok-answer.answer) (outcome_of c.in_ok-joined.joined) c.loop-first.rest.now c.in-Some.further.now c.in-Some.first.now c.deref.result.now c.requires.typed c.in-Some.ensures.cases.0 c.deref.ensures.value
    c.loop-first.invariant c.in_ok-answer.ensures c.in_ok-joined.ensures
