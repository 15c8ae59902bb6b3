-- What is left to show of `store_weakly`: one place more is stored at each step, and all at the end.
use Rattle.std.specs.Prelude.{IfSome}
use Rattle.std.proofs.Common.{◌≡◌, ◌∙◌, sym, subst, ap, ℕ, refl, arith, ◌+◌, ◌-◌, ◌/◌}
use Rattle.strided_rules.specs.Strides.{Stride}
use Rattle.memory_rules.specs.Frames.{AbstractByte, new_byte, weak_byte, weak_cell, with_x}
use Rattle.memory_rules.specs.AbstractSets.{abstract_sets}
use Rattle.memory_model.specs.HeldFrames.{frame_of}
use Rattle.frame_memory.specs.StandingCells.{seen}
use Rattle.frame_memory.specs.Places.{Becomes, below, weakly}
use Rattle.frame_memory.proofs.Sizes.{byte_size, stands_alike}
use Rattle.frame_memory.proofs.Stores.{begins, goes, untouched, ends}
use Rattle.frame_memory.proofs.weak.store_weakly.Goals as goal

pub weak_cell-requires : goal.weak_cell-requires
weak_cell-requires c =
    stands_alike (frame_of c.args.slots.now) c.requires.sized c.args.offset c.args.size c.args.value.now c.requires.value (seen c.in_ok-old.old) c.in_ok-old.ensures

pub loop-place-init : goal.loop-place-init
loop-place-init c =
    subst (λ (n : ℕ). Becomes c.args.slots.now c.args.slots.now (below n (weakly (frame_of c.args.slots.now) c.args.offset c.args.size (seen c.in_ok-cell.cell) c.args.value.now) (frame_of c.args.slots.now)))
    (sym c.first_near-place.ensures)
    (begins c.args.offset c.args.size (seen c.in_ok-cell.cell) (with_x abstract_sets) (λ b was. weak_byte abstract_sets was (new_byte abstract_sets c.args.value.now (b - c.args.offset))) c.requires.size refl c.args.slots.now)

pub store_at-requires-clause-byte : goal.store_at-requires-clause-byte
store_at-requires-clause-byte c =
    subst (λ (byte : AbstractByte Stride). IfSome byte.value (λ word. word.size ≡ 8))
    (sym (untouched c.args.offset c.args.size (seen c.in_ok-cell.cell) (with_x abstract_sets) (λ b was. weak_byte abstract_sets was (new_byte abstract_sets c.args.value.now (b - c.args.offset))) c.requires.size refl
    c.args.slots.now c.loop-place.slots c.loop-place.place c.loop-place.invariant))
    (byte_size (frame_of c.args.slots.now) c.requires.sized c.loop-place.place)

pub loop-place-preserved : goal.loop-place-preserved
loop-place-preserved c =
    goes c.args.offset c.args.size (seen c.in_ok-cell.cell) (with_x abstract_sets) (λ b was. weak_byte abstract_sets was (new_byte abstract_sets c.args.value.now (b - c.args.offset))) c.requires.size refl
    c.args.slots.now c.loop-place.slots c.store_at.new.slots c.loop-place.place c.loop-place.invariant c.in_ok-store_at.ensures

pub returns-clause-stored : goal.returns-clause-stored
returns-clause-stored c =
    let at : c.loop-place.place ≡ c.args.offset + c.args.size / 8 = omega (arith, c.first_near-place.ensures) in
    (ends c.args.offset c.args.size (seen c.in_ok-cell.cell) (with_x abstract_sets) (λ b was. weak_byte abstract_sets was (new_byte abstract_sets c.args.value.now (b - c.args.offset))) c.requires.size refl
    c.args.slots.now c.loop-place.slots c.loop-place.place at c.loop-place.invariant).frame
    ∙ ap (λ cell. weakly (frame_of c.args.slots.now) c.args.offset c.args.size cell c.args.value.now)
    (c.in_ok-cell.ensures ∙ ap (λ old. weak_cell abstract_sets old c.args.value.now) c.in_ok-old.ensures)
