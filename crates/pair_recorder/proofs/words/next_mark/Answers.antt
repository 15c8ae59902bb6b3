-- What is left to show of `next_mark`.
use Rattle.std.proofs.Common.{◌<◌, ◌/◌, ◌%◌, ◌^◌, get_or, arith}
use Rattle.std.proofs.lemmas.Nat.{shr_le}
use Rattle.recorder_rules.specs.WalkLaws.{mark_found, rest_clear}
use Rattle.pair_recorder.proofs.words.next_mark.Goals as goal

pub returns-then-rest-ne0 : goal.returns-then-rest-ne0
returns-then-rest-ne0 c =
    let p = c.loop-place.place in
    let low : get_or c.args.marks.now (p / 64) 0 < 2 ^ 64 = (c.type_inv.marks (p / 64)).fits in
    let less = shr_le (get_or c.args.marks.now (p / 64) 0) (p % 64) in
    mark_found c.args.marks.now c.args.start p c.loop-place.invariant.0 c.loop-place.invariant.2 low (omega arith) (omega (arith, c.if-rest-ne0.true))

pub loop-place-preserved : goal.loop-place-preserved
loop-place-preserved c =
    let p = c.loop-place.place in
    let within = c.loop-place-test.true in (
      let e = c.loop-place.invariant.0 in omega arith,
      omega arith,
      rest_clear c.args.marks.now c.args.start p c.loop-place.invariant.0 c.loop-place.invariant.2 c.if-rest-ne0.false,
    )
