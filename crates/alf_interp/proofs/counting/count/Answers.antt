use Rattle.std.proofs.Common.{arith, rules, ◌≡◌, ◌≤◌, refl}
use Rattle.std.proofs.lemmas.Grind.{common_steps, get_or_default_zero}
use Rattle.alf_interp.proofs.Turning.{low, counted_low, goes_on, is_over, is_past}
use Rattle.alf_interp.proofs.counting.count.Goals as goal

pub index_mut-requires : goal.index_mut-requires
index_mut-requires c =
    let less = low _ _ _ _ _ _ _ _ _ c.loop-turn.invariant c.a_run_has_one_continuation.ensures.more in
    grind (arith, common_steps)

pub overflow_add-index_mut : goal.overflow_add-index_mut
overflow_add-index_mut c =
    let so = c.loop-turn.invariant in
    let few = counted_low _ _ _ _ _ _ _ _ _ so c.a_run_has_one_continuation.ensures.more in
    let same = get_or_default_zero c.loop-turn.counts.items c.loop-turn.at c.index_mut.result.now (low _ _ _ _ _ _ _ _ _ so c.a_run_has_one_continuation.ensures.more) in
    let is = c.index_mut.ensures.value in
    let less = c.loop-turn-test.true in
    let fits = c.ranges.turns.fits in
    omega arith

pub bounds-costs-at : goal.bounds-costs-at
bounds-costs-at c =
    let so = c.loop-turn.invariant in
    let less = low _ _ _ _ _ _ _ _ _ so c.a_run_has_one_continuation.ensures.more in
    let counts = so.counted.one_each in
    let costs = c.requires.costs in
    omega arith

pub returns-in-Ended : goal.returns-in-Ended
returns-in-Ended c =
    let so = c.loop-turn.invariant in
    let told = rw c.in-Ended.is at (c.in_ok-next.ensures.steps _ so.stands) in
    let price : c.from-cost.result ≤ 4294967295 = search rules in
    is_over _ _ _ _ _ _ _ _ _ so c.a_run_has_one_continuation.ensures.more c.index_mut.result.now c.from-cost.result c.index_mut.ensures.value c.from-cost.ensures price
    c.args.turns _ c.loop-turn-test.true told refl refl refl refl

pub returns-in-Faulted : goal.returns-in-Faulted
returns-in-Faulted c =
    let so = c.loop-turn.invariant in
    let told = rw c.in-Faulted.is at (c.in_ok-next.ensures.steps _ so.stands) in
    let price : c.from-cost.result ≤ 4294967295 = search rules in
    is_over _ _ _ _ _ _ _ _ _ so c.a_run_has_one_continuation.ensures.more c.index_mut.result.now c.from-cost.result c.index_mut.ensures.value c.from-cost.ensures price
    c.args.turns _ c.loop-turn-test.true told refl refl refl refl

pub loop-turn-preserved : goal.loop-turn-preserved
loop-turn-preserved c =
    let so = c.loop-turn.invariant in
    let told = rw c.in-To.is at (c.in_ok-next.ensures.steps _ so.stands) in
    let price : c.from-cost.result ≤ 4294967295 = search rules in
    goes_on _ _ _ _ _ _ _ _ _ so c.a_run_has_one_continuation.ensures.more c.index_mut.result.now c.from-cost.result c.index_mut.ensures.value c.from-cost.ensures price
    c.in-To.next c.step.new.self c.step.ensures.checked c.step.ensures.graph told.0 told.1

pub returns : goal.returns
returns c =
    let so = c.loop-turn.invariant in
    let past = is_past _ _ _ _ _ _ _ _ _ so c.a_run_has_one_continuation.ensures.more in
    let all : c.loop-turn.turn ≡ c.args.turns = search rules in
    rw all at past
