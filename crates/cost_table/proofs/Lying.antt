-- Whether the cells of an entry lie in a frame.
--   found_there   the frame that is found is there
--   lies_there    they do, where the first offset and the bytes after it are small enough
--   lies_small    where they do, the offset is a number that is small enough
use Rattle.std.proofs.Common.{◌≡◌, ◌<◌, ◌≤◌, ◌+◌, ◌*◌, ◌/◌, ℕ, ℤ, pos, List, length, Some, slice_get, refl, ap, sym, ◌∙◌, subst, arith}
use Rattle.std.proofs.lemmas.Int.{ints}
use Rattle.std.proofs.lemmas.Option.{same_Some, slice_get_within}
use Rattle.std.proofs.lemmas.List.Elements.{All-contains}
use lib.IntN.{negsuc}
use lib.Signed.{◌≤ℤ◌}
use Rattle.lists.specs.MemberLaws.{contained}
use Rattle.alf_check.specs.declared.rows.FrameRow.{FrameRow}
use Rattle.alf_check.specs.declared.rows.InputRow.{InputRow}
use Rattle.alf_check.specs.CheckedPrograms.{NumberedProgram}
use Rattle.alf_check.specs.Kept.{KeepsFrame, KeepsFrames}
use Rattle.cost_table.specs.declared.input_entry.Cells.{Cells}
use Rattle.cost_table.specs.declared.input_entry.Run.{Run}
use Rattle.cost_table.specs.Inputs.{IsRun, LiesIn, first_row, input_frame, root_arguments, whole}
use Rattle.cost_table.proofs.FramesFound.{FoundFrame, frame_found}

-- the frame that is found is there
pub found_there : (program : NumberedProgram) (name : List ℕ) (f : ℕ) → input_frame program name ≡ Some f
    → f < length program.frames
found_there program name f e =
    let found : FoundFrame (root_arguments program) name 0 program.frames f = frame_found (root_arguments program) name 0 program.frames f e in
    let low = slice_get_within program.frames found.place found.row found.at in
    omega (arith, found.number)

-- the row of these parts
abbrev pub first_cell_of : ℕ → ℕ → ℕ → ℤ → ℤ → InputRow
first_cell_of f offset size low high = record { frame = f; offset = offset; size = size; low = low; high = high }

module _ (program : NumberedProgram) (name : List ℕ) (cells : Cells) (run : Run) (is_run : IsRun cells run) where
  -- the row of the first cell
  pub first_is : (f offset : ℕ) (low high : ℤ) → cells.offset ≡ pos offset → low ≡ cells.low → high ≡ cells.high
      → first_cell_of f offset run.bits low high ≡ first_row cells f
  first_is f offset low high e low_is high_is = rw (e, is_run.size, low_is, high_is) refl

  bytes_are : (offset : ℕ) → cells.offset ≡ pos offset
      → whole cells.offset + whole cells.count * (whole cells.size / 8) ≡ offset + run.count * (run.bits / 8)
  bytes_are offset e = rw (e, is_run.count, is_run.size) refl

  -- they lie there, where the first offset and the bytes after it are small enough
  pub lies_there : (f : ℕ) (row : FrameRow) (offset : ℕ) → input_frame program name ≡ Some f
      → slice_get program.frames f ≡ Some row → cells.offset ≡ pos offset
      → offset + run.count * (run.bits / 8) ≤ row.bits / 8 → LiesIn program (name, cells) f
  lies_there f row offset named at e small = record {
    row = row;
    named = named;
    at = at;
    from = rw e (omega (arith, ints));
    to = rw (bytes_are offset e) small;
  }

  -- where they lie in a frame, it is the one that is found, and the offset is small enough
  pub lies_small : (f : ℕ) (row : FrameRow) (offset g : ℕ) → input_frame program name ≡ Some f
      → slice_get program.frames f ≡ Some row → cells.offset ≡ pos offset → LiesIn program (name, cells) g
      → offset + run.count * (run.bits / 8) ≤ row.bits / 8
  lies_small f row offset g named at e lies =
      let same : g ≡ f = same_Some g f (sym lies.named ∙ named) in
      let row_is : lies.row ≡ row = same_Some lies.row row (sym lies.at ∙ ap (slice_get program.frames) same ∙ at) in
      let to : offset + run.count * (run.bits / 8) ≤ lies.row.bits / 8 = rw (bytes_are offset e) at lies.to in
      subst (λ (r : FrameRow). offset + run.count * (run.bits / 8) ≤ r.bits / 8) row_is to

  -- where they lie in a frame, the offset is not negative, and fits
  pub lies_fits : KeepsFrames program → (g : ℕ) → LiesIn program (name, cells) g
      → (pos 0 ≤ℤ cells.offset) × (cells.offset ≤ℤ pos 65536)
  lies_fits kept g lies =
      let keeps : KeepsFrame lies.row = All-contains KeepsFrame program.frames lies.row kept.each (contained program.frames g lies.row lies.at) in
      let low : whole cells.offset ≤ 65536 = omega (arith, lies.to) in
      (lies.from, below cells.offset low)
    where
      below : (z : ℤ) → whole z ≤ 65536 → z ≤ℤ pos 65536
      below (pos n) low = omega (arith, ints)
      below (negsuc n) low = omega (arith, ints)
