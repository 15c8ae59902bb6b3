-- Places lie in their frames.
--   place_lies       the cell of a place lies in its frame
--   pin_fits         a place that is found may be pinned
--   side_fits        a side that is found fits the size of its expression
use Rattle.std.specs.Prelude.{IfSome, slice_get, if◌then◌else◌}
use Rattle.std.specs.Option.{option_map}
use Rattle.std.specs.Result.{result_ok}
use Rattle.std.proofs.Common.{◌≡◌, ℕ, Bool, true, false, List, [], ◌∷◌, Option, Some, None, refl, sym, subst}
use Rattle.std.proofs.lemmas.Option.{none-some, same_Some}
use Rattle.lists.specs.TestLaws.{by_test}
use Rattle.lists.specs.ImageLaws.{some_image}
use Rattle.alf_ops.specs.declared.history.Value.TheVariants.{Ptr}
use Rattle.alf_ops.specs.declared.history.FrameShape.{FrameShape}
use Rattle.alf_ops.specs.Histories.{fits_in}
use Rattle.alf_program.specs.Tree.{NumberedExpression, NumberedExpressions, Number, Address, Load, Apply, Empty, With}
use Rattle.alf_check.specs.declared.rows.FrameRow.{FrameRow}
use Rattle.alf_check.specs.Kept.{HasSize}
use Rattle.strided_rules.specs.Strides.{Stride}
use Rattle.strided_rules.specs.Members.{is_one, word_of}
use Rattle.pointer_rules.specs.AbstractValues.{AbstractValue}
use Rattle.memory_rules.specs.Memories.{Mem, is_on}
use Rattle.memory_rules.specs.Addresses.{tested, tested_in}
use Rattle.memory_rules.specs.AbstractSets.{abstract_sets}
use Rattle.memory_model.specs.KeptMemories.{MemoryParts, memory_in, rows_of, IsMemory}
use Rattle.abstract_memory.specs.Cells.{IsCellOf}
use Rattle.transfer_rules.specs.Evaluating.{loaded, value_at}
use Rattle.transfer_rules.specs.Refining.{Place as SeenPlace, cell_of, words_alone, cell_where, loaded_cell, load_place, is_extension, operand_place, place_of}
use Rattle.transfer_rules.specs.PlaceReadingLaws.{place_fits}
use Rattle.branch_refinement.specs.declared.refinements.Place.{Place}
use Rattle.branch_refinement.specs.declared.refinements.Side.{Side}
use Rattle.branch_refinement.specs.Places.{seen_place, PinFits}
use Rattle.branch_refinement.specs.Sides.{IsSide, SideFits}
use Rattle.branch_refinement.proofs.Reading.{left_sized, words_sized}

none_is : {A B : Type 0} (a : A) → None ≡ Some a → B
none_is a e = absurd (none-some a e)

-- ---- cells that are tested

-- ---- where places lie

module _ (rows : List FrameShape) (runs : ℕ → Bool) (size : ℕ) (cell : ℕ × ℕ) where
  tested_lies : (frame offset : ℕ) → result_ok (tested rows runs (Ptr frame offset) size) ≡ Some cell
      → IsCellOf rows cell.0 cell.1 size
  tested_lies frame offset e = go (slice_get rows frame) refl e
    where
      go : (found : Option FrameShape) → slice_get rows frame ≡ found
          → result_ok (tested_in found runs frame offset size) ≡ Some cell → IsCellOf rows cell.0 cell.1 size
      go None found e = none_is cell e
      go (Some row) found e = by_test (is_on runs row.owner)
          (λ on. by_test (fits_in row.bits offset size)
          (λ room.
          let same : (frame, offset) ≡ cell = same_Some (frame, offset) cell (rw (on, room) at e) in
          subst (λ (c : ℕ × ℕ). IsCellOf rows c.0 c.1 size) same (record { row = row; found = found; fits = room }))
          (λ past. none_is cell (rw (on, past) at e)))
          (λ off. none_is cell (rw off at e))

  cell_lies : (words : Option Stride) (places : List (ℕ × Stride)) → cell_of rows runs size words places ≡ Some cell
      → IsCellOf rows cell.0 cell.1 size
  cell_lies (Some words) places e = none_is cell e
  cell_lies None [] e = none_is cell e
  cell_lies None (place ∷ other ∷ places) e = none_is cell e
  cell_lies None (place ∷ []) e = by_test (is_one place.1)
      (λ one. tested_lies place.0 (word_of place.1) (rw one at e))
      (λ several. none_is cell (rw several at e))

  where_lies : (words : Option Stride) (o : Option (ℕ × ℕ)) → cell_where words o ≡ Some cell → o ≡ Some cell
  where_lies None o e = none_is cell e
  where_lies (Some words) o e = e

loaded_lies : (rows : List FrameShape) (m : Mem abstract_sets) (size : ℕ) (o : Option AbstractValue) (cell : ℕ × ℕ)
    → loaded_cell rows m size o ≡ Some cell → IsCellOf rows cell.0 cell.1 size
loaded_lies rows m size None cell e = none_is cell e
loaded_lies rows m size (Some at) cell e =
    cell_lies rows m.runs size cell at.words at.places
    (where_lies rows m.runs size cell (words_alone (loaded rows m size at).left) (cell_of rows m.runs size at.words at.places) e)

load_lies : (rows : List FrameShape) (m : Mem abstract_sets) (extended : Bool) (size : ℕ) (at : NumberedExpression) (place : SeenPlace) → load_place rows m extended size at ≡ Some place
    → IsCellOf rows place.cell.0 place.cell.1 place.size
load_lies rows m extended size at place e =
    let i = some_image (λ (cell : ℕ × ℕ). record { cell = cell; size = size; extended = extended }) (loaded_cell rows m size (value_at rows m at).left) place e in
    subst (λ (p : SeenPlace). IsCellOf rows p.cell.0 p.cell.1 p.size) i.2 (loaded_lies rows m size (value_at rows m at).left i.0 i.1)

operand_lies : (rows : List FrameShape) (m : Mem abstract_sets) (es : NumberedExpressions) (place : SeenPlace)
    → operand_place rows m es ≡ Some place → IsCellOf rows place.cell.0 place.cell.1 place.size
operand_lies rows m Empty place e = none_is place e
operand_lies rows m (With (Number num) Empty) place e = none_is place e
operand_lies rows m (With (Address frame offset) Empty) place e = none_is place e
operand_lies rows m (With (Load size at) Empty) place e = load_lies rows m true size at place e
operand_lies rows m (With (Apply op sizes es) Empty) place e = none_is place e
operand_lies rows m (With x (With other es)) place e = none_is place e

-- the cell of a place lies in its frame
pub place_lies : (rows : List FrameShape) (m : Mem abstract_sets) (e : NumberedExpression) (place : SeenPlace)
    → place_of rows m e ≡ Some place → IsCellOf rows place.cell.0 place.cell.1 place.size
place_lies rows m (Number num) place is = none_is place is
place_lies rows m (Address frame offset) place is = none_is place is
place_lies rows m (Load size at) place is = load_lies rows m false size at place is
place_lies rows m (Apply op sizes es) place is = by_test (is_extension op)
    (λ e. operand_lies rows m es place (rw e at is))
    (λ e. none_is place (rw e at is))

-- ---- what may be pinned

-- a place that is found may be pinned
pub pin_fits : (table : List FrameRow) (k : ℕ) (rows : List FrameShape) (m : Mem abstract_sets) (e : NumberedExpression) (size : ℕ) (o : Option Place) → HasSize table k size e
    → option_map seen_place o ≡ place_of rows m e → IfSome o (PinFits rows size)
pin_fits table k rows m e size None has is = tt
pin_fits table k rows m e size (Some place) has is = record {
  lies = place_lies rows m e (seen_place place) (sym is);
  fits = place_fits table k rows m e size (seen_place place) has (sym is);
}

-- a side that is found fits the size of its expression
pub side_fits : (parts : MemoryParts) (table : List FrameRow) (k : ℕ) (e : NumberedExpression) (size : ℕ) (side : Side)
    → IsMemory parts → HasSize table k size e
    → IsSide (rows_of parts.checked) (memory_in parts) e side → SideFits (rows_of parts.checked) size side
side_fits parts table k e size side kept has is = record {
  words = subst (λ (o : Option Stride). IfSome o (λ w. w.size ≡ size)) (sym is.words)
      (words_sized size (value_at (rows_of parts.checked) (memory_in parts) e).left (left_sized parts table k size e kept has));
  place = pin_fits table k (rows_of parts.checked) (memory_in parts) e size side.place has is.place;
}
