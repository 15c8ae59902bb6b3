-- Memories that hold nothing, and functions left.
use Rattle.std.specs.Prelude.{slice_set}
use Rattle.std.proofs.Common.{◌≡◌, ◌∙◌, ap, subst, sym, ℕ, suc, zero, Bool, false, List, [], ◌∷◌, map, replicate, refl, length, ◌/◌}
use Rattle.std.proofs.lemmas.List.{length-replicate}
use Rattle.alf_check.specs.declared.rows.FrameRow.{FrameRow}
use Rattle.alf_check.specs.Shapes.{shapes_of}
use Rattle.alf_check.specs.CheckedPrograms.{CheckedParts, seen}
use Rattle.memory_pages.specs.Slots.{HeldSlot, bare}
use Rattle.memory_rules.specs.AbstractSets.{abstract_sets}
use Rattle.memory_rules.specs.AbstractSetLaws.{abstract_is_sets}
use Rattle.memory_rules.specs.Memories.{Mem, MemSized, fresh}
use Rattle.memory_rules.specs.MemoryProofLaws.{start_sharp}
use Rattle.memory_model.specs.HeldMemories.{memory_of, blank_slots, held_no_byte, FreshHeld}
use Rattle.memory_model.specs.KeptMemories.{MemoryParts, rows_of, functions_of, bytes_in, canonical, IsMemory}
use Rattle.abstract_memory.specs.Blank.{blank_frame}

by_sizes : (rows : List FrameRow) → map blank_frame rows ≡ map blank_slots (map bytes_in (shapes_of rows))
by_sizes [] = refl
by_sizes (row ∷ rows) = ap (λ frames. blank_frame row ∷ frames) (by_sizes rows)

lengths : (rows : List FrameRow) → map length (map blank_frame rows) ≡ map bytes_in (shapes_of rows)
lengths [] = refl
lengths (row ∷ rows) =
    ap (λ (n : ℕ). n ∷ map length (map blank_frame rows)) (length-replicate (row.bits / 8) (bare held_no_byte))
    ∙ ap (λ ns. row.bits / 8 ∷ ns) (lengths rows)

pub blank_canonical : (count : ℕ) → map canonical (blank_slots count) ≡ blank_slots count
blank_canonical zero = refl
blank_canonical (suc count) = ap (λ slots. bare held_no_byte ∷ slots) (blank_canonical count)

all_canonical : (rows : List FrameRow) → map (map canonical) (map blank_frame rows) ≡ map blank_frame rows
all_canonical [] = refl
all_canonical (row ∷ rows) =
    ap (λ slots. slots ∷ map (map canonical) (map blank_frame rows)) (blank_canonical (row.bits / 8))
    ∙ ap (λ frames. blank_frame row ∷ frames) (all_canonical rows)

module _ (checked : CheckedParts) (frames : List (List HeldSlot)) (running : List Bool) (rows : List FrameRow) (count : ℕ)
    (are : frames ≡ map blank_frame rows) (idle : running ≡ replicate count false) (same : rows ≡ (seen checked).frames)
    (all : count ≡ functions_of checked) (law : FreshHeld) where
  pub new_fresh : memory_of running frames ≡ fresh abstract_sets
  new_fresh =
      ap (λ r. memory_of r frames) idle
      ∙ (ap (λ f. memory_of (replicate count false) f) (are ∙ by_sizes rows) ∙ law count (map bytes_in (shapes_of rows)))

  pub new_kept : IsMemory (record { checked = checked; running = running; frames = frames })
  new_kept = record {
    running = ap length idle ∙ (length-replicate count false ∙ all);
    frames = ap (λ f. map length f) are ∙ (lengths rows ∙ ap (λ r. map bytes_in (shapes_of r)) same);
    canonical = ap (λ f. map (map canonical) f) are ∙ (all_canonical rows ∙ sym are);
    sized = subst (λ (m : Mem abstract_sets). MemSized abstract_sets m) (sym new_fresh) (start_sharp abstract_sets abstract_is_sets (rows_of checked)).1;
  }

pub set_length : {A : Type 0} (xs : List A) (i : ℕ) (y : A) → length (slice_set xs i y) ≡ length xs
set_length [] i y = refl
set_length (x ∷ xs) zero y = refl
set_length (x ∷ xs) (suc i) y = ap (λ (n : ℕ). suc n) (set_length xs i y)

-- the flags of functions alone changed
pub kept_after : (parts : MemoryParts) (function : ℕ) (runs : Bool) → IsMemory parts
    → IsMemory (record { checked = parts.checked; running = slice_set parts.running function runs; frames = parts.frames })
kept_after parts function runs is = record {
  running = set_length parts.running function runs ∙ is.running;
  frames = is.frames;
  canonical = is.canonical;
  sized = is.sized;
}
