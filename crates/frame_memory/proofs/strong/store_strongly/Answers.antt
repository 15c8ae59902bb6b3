-- What is left to show of `store_strongly`: one place more is stored at each step, and all at the end.
use Rattle.std.proofs.Common.{◌≡◌, None, refl, arith, ◌+◌, ◌-◌, ◌/◌}
use Rattle.memory_rules.specs.Frames.{new_byte}
use Rattle.memory_rules.specs.AbstractSets.{abstract_sets}
use Rattle.frame_memory.specs.Places.{known_seen}
use Rattle.frame_memory.proofs.Stores.{goes, ends}
use Rattle.frame_memory.proofs.strong.store_strongly.Goals as goal

pub loop-place-preserved : goal.loop-place-preserved
loop-place-preserved c =
    goes c.args.offset c.args.size (known_seen c.args.value.now) (λ cell. None) (λ b was. new_byte abstract_sets c.args.value.now (b - c.args.offset)) c.requires.size refl
    c.args.slots.now c.loop-place.slots c.store_at.new.slots c.loop-place.place c.loop-place.invariant c.in_ok-store_at.ensures

pub returns-clause-stored : goal.returns-clause-stored
returns-clause-stored c =
    let at : c.loop-place.place ≡ c.args.offset + c.args.size / 8 = omega (arith, c.first_near-place.ensures) in
    (ends c.args.offset c.args.size (known_seen c.args.value.now) (λ cell. None) (λ b was. new_byte abstract_sets c.args.value.now (b - c.args.offset)) c.requires.size refl
    c.args.slots.now c.loop-place.slots c.loop-place.place at c.loop-place.invariant).frame
