-- What is left to show of `store_at`: the first place of the cell is the place.
use Rattle.std.proofs.Common.{ℕ, subst, sym}
use Rattle.std.specs.Prelude.{OnOk}
use Rattle.memory_rules.specs.AbstractSets.{abstract_sets}
use Rattle.memory_rules.specs.Frames.{strong}
use Rattle.memory_model.specs.HeldFrames.{frame_of}
use Rattle.frame_memory.specs.Places.{Becomes, at_place}
use Rattle.frame_memory.proofs.strong.store_at.Goals as goal

pub returns-then-place-start-2 : goal.returns-then-place-start-2
returns-then-place-start-2 c =
    subst (λ (p : ℕ). OnOk c.store_first.result (Becomes c.args.slots.now c.store_first.new.slots
    (at_place p (strong abstract_sets (frame_of c.args.slots.now) c.args.offset c.args.size c.args.value.now) (frame_of c.args.slots.now))))
    (sym c.if-place-start-2.true) c.store_first.ensures
