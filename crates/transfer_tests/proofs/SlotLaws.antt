-- Laws of slots.
--   words_are              words as a value
--   bare_slots             slots that hold nothing
--   stored_slots, mixed_slots, pinned_slots   after a strong store, a weak one, and a pin
use Rattle.std.specs.Prelude.{replicate}
use Rattle.std.proofs.Common.{◌≡◌, ◌∙◌, ℕ, suc, zero, List, [], ◌∷◌, length, refl, sym, ap, subst}
use Rattle.strided_rules.specs.Strides.{Stride, IsStride}
use Rattle.pointer_rules.specs.AbstractValues.{AbstractValue, Words, alone}
use Rattle.pointer_rules.specs.Covering.{IsValue}
use Rattle.memory_pages.specs.Slots.{HeldSlot, bare}
use Rattle.memory_rules.specs.AbstractSets.{abstract_sets}
use Rattle.memory_rules.specs.AbstractSetLaws.{abstract_is_sets}
use Rattle.memory_rules.specs.Covers.{FrameSized, IsCellSize}
use Rattle.memory_rules.specs.Frames.{strong, weak, pinned}
use Rattle.memory_rules.specs.Memories.{Mem}
use Rattle.memory_rules.specs.UpdateLaws.{strong_sized, weak_sized, pinned_sized, empty_sized}
use Rattle.memory_model.specs.HeldFrames.{frame_of}
use Rattle.memory_model.specs.HeldMemories.{held_no_byte, FreshHeld}
use Rattle.frame_memory.specs.Places.{AreCanonical}
use Rattle.transfer_tests.specs.Slots.{AreSlots}

-- words as a value
pub words_are : (words : Stride) → IsStride words → IsValue words.size (alone (Words words))
words_are words is = record { is = record { words = is; places = tt; ascending = tt; some = λ none. cc }; sized = record { words = refl; places = tt } }

bare_length : (count : ℕ) → length (replicate count (bare held_no_byte)) ≡ count
bare_length zero = refl
bare_length (suc count) = ap (λ (n : ℕ). suc n) (bare_length count)

bare_canonical : (count : ℕ) → AreCanonical (replicate count (bare held_no_byte))
bare_canonical zero = refl
bare_canonical (suc count) = ap (λ (slots : List HeldSlot). bare held_no_byte ∷ slots) (bare_canonical count)

-- slots that hold nothing
pub bare_slots : FreshHeld → (count : ℕ) (slots : List HeldSlot) → slots ≡ replicate count (bare held_no_byte)
    → AreSlots count slots
bare_slots law count slots is = subst (AreSlots count) (sym is) (record {
  many = bare_length count;
  canonical = bare_canonical count;
  sized = subst (FrameSized abstract_sets) (sym (ap (λ (m : Mem abstract_sets). m.frames 0) (law 0 (count ∷ [])))) (empty_sized abstract_sets abstract_is_sets);
})

module _ (count : ℕ) (old new : List HeldSlot) (offset size : ℕ) (value : AbstractValue) (are : AreSlots count old) (same : length new ≡ length old) (keep : AreCanonical old → AreCanonical new) where
  -- after a strong store
  pub stored_slots : IsCellSize size → IsValue size value
      → frame_of new ≡ strong abstract_sets (frame_of old) offset size value → AreSlots count new
  stored_slots cell is stored = record {
    many = same ∙ are.many;
    canonical = keep are.canonical;
    sized = subst (FrameSized abstract_sets) (sym stored) (strong_sized abstract_sets abstract_is_sets (frame_of old) offset size value cell are.sized is);
  }

  -- after a weak one
  pub mixed_slots : IsCellSize size → IsValue size value
      → frame_of new ≡ weak abstract_sets (frame_of old) offset size value → AreSlots count new
  mixed_slots cell is stored = record {
    many = same ∙ are.many;
    canonical = keep are.canonical;
    sized = subst (FrameSized abstract_sets) (sym stored) (weak_sized abstract_sets abstract_is_sets (frame_of old) offset size value cell are.sized is);
  }

  -- after a pin
  pub pinned_slots : IsValue size value → frame_of new ≡ pinned abstract_sets (frame_of old) offset size value
      → AreSlots count new
  pinned_slots is stored = record {
    many = same ∙ are.many;
    canonical = keep are.canonical;
    sized = subst (FrameSized abstract_sets) (sym stored) (pinned_sized abstract_sets abstract_is_sets (frame_of old) offset size value are.sized is);
  }
