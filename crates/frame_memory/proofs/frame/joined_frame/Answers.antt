-- What is left to show of `joined_frame`: facts of the proof files, applied.
use Rattle.std.proofs.Common.{◌∙◌, ap, sym, subst, ℕ, List, ◌+◌, ◌<◌, ◌≤◌, length, arith}
use Rattle.std.specs.Prelude.{slice_set}
use Rattle.memory_pages.specs.Slots.{HeldSlot}
use Rattle.frame_memory.proofs.FrameSteps.{JoinedUpTo, skipped, put, over}
use Rattle.frame_memory.proofs.frame.joined_frame.Goals as goal

pub loop-place-preserved-then-same-eq0 : goal.loop-place-preserved-then-same-eq0
loop-place-preserved-then-same-eq0 c =
    subst (λ (slots : List HeldSlot). JoinedUpTo c.args.a.now c.args.b.now slots (c.loop-place.place + 1))
    (sym (c.in_ok-put.ensures ∙ ap (slice_set c.loop-place.slots c.loop-place.place) c.in_ok-slot_joined.ensures))
    (put c.args.a.now c.args.b.now c.requires.canonical c.requires.first c.loop-place.slots c.loop-place.place c.loop-place.invariant
    (subst (λ (n : ℕ). c.loop-place.place < n) (sym c.requires.count) c.loop-place-test.true))

pub loop-place-preserved : goal.loop-place-preserved
loop-place-preserved c =
    skipped c.args.a.now c.args.b.now c.requires.canonical c.requires.first c.loop-place.slots c.loop-place.place c.same_from-same.result c.loop-place.invariant
    c.same_from-same.ensures.same

pub returns : goal.returns
returns c =
    let past = c.loop-place-test.false in
    let count = c.requires.count in
    let end : length c.args.a.now ≤ c.loop-place.place = omega (arith, past, count) in
    over c.args.a.now c.args.b.now c.requires.canonical c.requires.first c.loop-place.slots c.loop-place.place c.loop-place.invariant end
