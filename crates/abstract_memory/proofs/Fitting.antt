-- Cells of an address lie in their frames.
--   fits_one   the cell of a row that it fits
--   all_fit    the cells that an address may mean
use Rattle.std.specs.Prelude.{slice_get, ◌&&◌}
use Rattle.std.specs.Option.{option_map}
use Rattle.std.proofs.Common.{Bool, ◌≡◌, ◌∙◌, ap, subst, sym, ℕ, List, [], ◌∷◌, ◌++◌, map, Option, Some, None, refl, arith, ◌+◌, ◌*◌, ◌/◌, ◌≤◌}
use Rattle.std.proofs.lemmas.Bool.{and_parts, leb-true}
use Rattle.std.proofs.lemmas.Option.{slice_get-map, slice_get_within}
use Rattle.lists.specs.TestLaws.{by_test}
use Rattle.alf_ops.specs.declared.history.FrameShape.{FrameShape}
use Rattle.alf_ops.specs.Histories.{offsets, fits_in}
use Rattle.strided_rules.specs.Strides.{Stride}
use Rattle.strided_rules.specs.Members.{has}
use Rattle.memory_rules.specs.Covers.{IsCellSize}
use Rattle.memory_rules.specs.Memories.{is_on}
use Rattle.memory_rules.specs.Addresses.{cells_at, cells_in, cells_of}
use Rattle.memory_model.specs.KeptMemories.{bytes_in}
use Rattle.abstract_memory.specs.Cells.{IsCellOf, count_or, Fits, AllFit}

module _ (rows : List FrameShape) (size : ℕ) (lengths : List ℕ) (is : IsCellSize size) (same : lengths ≡ map bytes_in rows) where
  -- the cell of a row that it fits
  pub fits_one : (frame offset : ℕ) → IsCellOf rows frame offset size → Fits lengths size (frame, offset)
  fits_one frame offset cell =
      let found : slice_get lengths frame ≡ Some (bytes_in cell.row) =
      ap (λ (l : List ℕ). slice_get l frame) same ∙ (slice_get-map bytes_in rows frame ∙ ap (option_map bytes_in) cell.found) in
      let low : offset * 8 + size ≤ cell.row.bits = leb-true (offset * 8 + size) cell.row.bits cell.fits in
      let whole = is.1 in
      let end : offset + size / 8 ≤ cell.row.bits / 8 = omega (arith, low, whole) in
      record { frame = slice_get_within lengths frame (bytes_in cell.row) found; end = subst (λ (o : Option ℕ). offset + size / 8 ≤ count_or o) (sym found) end }

  both_fit : (first second : List (ℕ × ℕ)) → AllFit lengths size first → AllFit lengths size second
      → AllFit lengths size (first ++ second)
  both_fit [] second a b = b
  both_fit (cell ∷ first) second a b = (a.0, both_fit first second a.1 b)

  in_row : (frame : ℕ) (row : FrameShape) (members : Stride) (all : List ℕ) → slice_get rows frame ≡ Some row
      → AllFit lengths size (cells_at frame row.bits size members all)
  in_row frame row members [] found = tt
  in_row frame row members (offset ∷ all) found = by_test (has members offset && fits_in row.bits offset size)
      (λ on. rw on (fits_one frame offset (record { row = row; found = found; fits = (and_parts (has members offset) (fits_in row.bits offset size) on).1 }), in_row frame row members all found))
      (λ off. rw off (in_row frame row members all found))

  in_frame : (runs : ℕ → Bool) (place : ℕ × Stride) (o : Option FrameShape) → slice_get rows place.0 ≡ o
      → AllFit lengths size (cells_in o runs place size)
  in_frame runs place None found = tt
  in_frame runs place (Some row) found = by_test (is_on runs row.owner)
      (λ on. rw on (in_row place.0 row place.1 (offsets 0 (row.bits / 8)) found))
      (λ off. rw off tt)

  -- the cells that an address may mean
  pub all_fit : (runs : ℕ → Bool) (places : List (ℕ × Stride)) → AllFit lengths size (cells_of rows runs places size)
  all_fit runs [] = tt
  all_fit runs (place ∷ places) =
      both_fit (cells_in (slice_get rows place.0) runs place size) (cells_of rows runs places size)
      (in_frame runs place (slice_get rows place.0) refl) (all_fit runs places)
