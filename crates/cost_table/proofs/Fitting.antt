-- Cells of an entry in range that lie in their frame, whatever else the program keeps.
--   Fits program entry run first   the entry is in range and its cells lie in a frame, with this size and count and this first row
--   eights           a size is eight times its bytes
--   size_is          the size of the first row
--   room_of          the cells lie in the first bytes of their frame
--   rows_are         the rows of the entry are those from the first
--   keep_more        with rows that keep the rules of rows and share no byte with them they keep these rules
use Rattle.std.proofs.Common.{◌≡◌, ◌≤◌, ◌+◌, ◌*◌, ◌/◌, ◌⊎◌, ◌++◌, inl, ℕ, zero, suc, true, List, [], All, Option, None, slice_get, refl, ap, sym, ◌∙◌, subst, arith}
use Rattle.std.specs.List.{AllPairs}
use Rattle.std.specs.Option.{option_map_or}
use Rattle.std.proofs.lemmas.Bool.Decides.{nat_tests}
use Rattle.std.proofs.lemmas.Option.{same_Some}
use Rattle.std.proofs.lemmas.List.Elements.{All-append}
use Rattle.std.proofs.lemmas.List.Kept.{AllPairs-cons}
use Rattle.lists.specs.MemberLaws.{all_members}
use Rattle.alf_faults.specs.Sizes.{is_export_size}
use Rattle.alf_check.specs.declared.rows.FrameRow.{FrameRow}
use Rattle.alf_check.specs.declared.rows.InputRow.{InputRow}
use Rattle.alf_check.specs.CheckedPrograms.{NumberedProgram}
use Rattle.alf_check.specs.Inputs.{KeepsInput, KeepInputs, ShareNoByte}
use Rattle.cost_table.specs.declared.input_entry.Cells.{Cells}
use Rattle.cost_table.specs.declared.input_entry.Run.{Run}
use Rattle.cost_table.specs.Inputs.{AreApart, IsRun, LiesIn, after, first_row, rows_from, rows_of, root_arguments, whole}
use Rattle.cost_table.proofs.FramesFound.{FoundFrame, frame_found, may_be}
use Rattle.cost_table.proofs.Pairs.{pairs_append}
use Rattle.cost_table.proofs.RowsFrom.{IsCellOf, cell_of, width}

-- the entry is in range and its cells lie in a frame
pub record Fits (program : NumberedProgram) (entry : List ℕ × Cells) (run : Run) (first : InputRow) : Type 0 where
  pub is_run : IsRun entry.1 run
  pub lies : LiesIn program entry first.frame
  pub first_is : first ≡ first_row entry.1 first.frame

-- a size is eight times its bytes
pub eights : (bits : ℕ) → is_export_size bits ≡ true → (bits ≡ 8 * (bits / 8)) × (8 ≤ bits)
eights bits e = (grind (arith, nat_tests), grind (arith, nat_tests))

-- no two of the cells share a byte
own : (row : InputRow) (n : ℕ) → row.size ≡ 8 * width row → AllPairs ShareNoByte (rows_from row n)
own row zero e = λ i j d less low. absurd (omega arith)
own row (suc n) e = AllPairs-cons ShareNoByte row (rows_from (after row) n)
    (all_members (ShareNoByte row) (rows_from (after row) n) (λ c among. λ same. inl (let is = cell_of (after row) n c among in omega (arith, is.from, e))))
    (own (after row) n e)

module _ (program : NumberedProgram) (entry : List ℕ × Cells) (run : Run) (first : InputRow) (fits : Fits program entry run first) where
  pub size_is : first.size ≡ run.bits
  size_is = ap (λ (r : InputRow). r.size) fits.first_is ∙ ap whole fits.is_run.size

  offset_is : first.offset ≡ whole entry.1.offset
  offset_is = ap (λ (r : InputRow). r.offset) fits.first_is

  count_is : whole entry.1.count ≡ run.count
  count_is = ap whole fits.is_run.count

  -- the cells lie in the first bytes of their frame
  pub room_of : first.offset + run.count * (first.size / 8) ≤ fits.lies.row.bits / 8
  room_of =
      let same : whole entry.1.offset + whole entry.1.count * (whole entry.1.size / 8) ≡ first.offset + run.count * (first.size / 8) = rw (offset_is, count_is, ap (λ (r : InputRow). r.size) fits.first_is) refl in
      rw same at fits.lies.to

  -- the rows of the entry are those from the first
  pub rows_are : rows_of program entry ≡ rows_from first run.count
  rows_are =
      let found : rows_of program entry ≡ rows_from (first_row entry.1 first.frame) (whole entry.1.count) = ap (λ (o : Option ℕ). option_map_or (λ f. rows_from (first_row entry.1 f) (whole entry.1.count)) o []) fits.lies.named in
      found ∙ ap (rows_from (first_row entry.1 first.frame)) count_is ∙ ap (λ r. rows_from r run.count) (sym fits.first_is)

  -- each keeps the rules of rows
  keeps_cell : (c : InputRow) → IsCellOf first run.count c → KeepsInput program c
  keeps_cell c is =
      let found : FoundFrame (root_arguments program) entry.0 0 program.frames first.frame = frame_found (root_arguments program) entry.0 0 program.frames first.frame fits.lies.named in
      let place : found.place ≡ first.frame = omega (arith, found.number) in
      let row_is : found.row ≡ fits.lies.row = same_Some found.row fits.lies.row (sym found.at ∙ ap (slice_get program.frames) place ∙ fits.lies.at) in
      let may = may_be program entry.0 first.frame found.row found.is in
      let bits : c.size ≡ run.bits = is.size ∙ size_is in
      let low_is : c.low ≡ entry.1.low = is.lowest ∙ ap (λ (r : InputRow). r.low) fits.first_is in
      let high_is : c.high ≡ entry.1.high = is.highest ∙ ap (λ (r : InputRow). r.high) fits.first_is in
      let exact = eights run.bits fits.is_run.sized in
      let room = room_of in
      record {
        row = fits.lies.row;
        at = rw is.frame fits.lies.at;
        may = rw is.frame (subst (λ (r : FrameRow). (r.owner ≡ None) ⊎ _) row_is may);
        sized = rw bits fits.is_run.sized;
        lies = omega (arith, is.to, room, exact.0, size_is, bits, is.size);
        ordered = rw (low_is, high_is) fits.is_run.range.ordered;
        least = rw (low_is, bits) fits.is_run.range.least;
        most = rw (high_is, bits) fits.is_run.range.most;
        narrow = rw (low_is, high_is, bits) fits.is_run.range.narrow;
      }

  each_keeps : All (KeepsInput program) (rows_from first run.count)
  each_keeps = all_members (KeepsInput program) (rows_from first run.count) (λ c among. keeps_cell c (cell_of first run.count c among))

  -- all rows keep the rules of rows for a program
  pub keep_more : (earlier : List InputRow) → KeepInputs program earlier → AreApart earlier (rows_from first run.count)
      → KeepInputs program (earlier ++ rows_from first run.count)
  keep_more earlier kept cross =
      let exact = eights run.bits fits.is_run.sized in
      record {
        each = All-append (KeepsInput program) earlier (rows_from first run.count) kept.each each_keeps;
        apart = pairs_append ShareNoByte earlier (rows_from first run.count) kept.apart (own first run.count (omega (arith, exact.0, size_is))) cross;
      }
