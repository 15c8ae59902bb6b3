-- Cells of an entry that lie in their frame.
--   Placed program entry run first   the entry is in range and its cells lie in a frame, with this size and count and this first row
--   room_of          the cells lie in the first 65,536 bytes of their frame
--   rows_are         the rows of the entry are those from the first
--   keep_more        with earlier rows they keep the rules of rows
--   free_apart       none shares a byte with an earlier row if no byte has a mark
--   met_shares       one does if some byte has a mark
--   marks_more       once their bytes are marked, the marks are those of all rows
use Rattle.std.proofs.Common.{◌≡◌, ◌<◌, ◌≤◌, ◌+◌, ◌*◌, ◌/◌, ◌-◌, ◌++◌, inl, inr, ⊎_elim, ℕ, true, List, length, All, Contains, Bool, Some, slice_get, sym, ◌∙◌, subst, arith}
use Rattle.std.specs.Prelude.{max}
use Rattle.std.proofs.lemmas.Option.{slice_get_within}
use Rattle.std.proofs.lemmas.List.Elements.{All-contains, Contains-append_cases, Contains-append_left, Contains-append_right}
use Rattle.lists.specs.MemberLaws.{contained, all_members}
use Rattle.alf_check.specs.declared.rows.InputRow.{InputRow}
use Rattle.alf_check.specs.CheckedPrograms.{NumberedProgram}
use Rattle.alf_check.specs.Inputs.{KeepsInput, KeepInputs, ShareNoByte}
use Rattle.alf_check.specs.Kept.{KeepsFrame, IsKept}
use Rattle.cost_table.specs.declared.input_entry.Cells.{Cells}
use Rattle.cost_table.specs.declared.input_entry.Run.{Run}
use Rattle.cost_table.specs.Inputs.{AreApart, IsRun, LiesIn, first_row, rows_from, rows_of}
use Rattle.cost_table.specs.Marks.{AreMarks, IsMarkedIn, IsTaken, MarksIn, end_of, start_of}
use Rattle.cost_table.proofs.Fitting as fitting
use Rattle.cost_table.proofs.Fitting.{Fits, eights}
use Rattle.cost_table.proofs.Orders.{below_or_not}
use Rattle.cost_table.proofs.RowsFrom.{IsCellOf, cell_of, taken_from}

-- the entry is in range and its cells lie in a frame
pub record Placed (program : NumberedProgram) (entry : List ℕ × Cells) (run : Run) (first : InputRow) : Type 0 where
  pub kept : IsKept program
  pub is_run : IsRun entry.1 run
  pub lies : LiesIn program entry first.frame
  pub first_is : first ≡ first_row entry.1 first.frame

-- a byte of the rows of one of two lists
taken_left : (xs ys : List InputRow) (f b : ℕ) → IsTaken xs f b → IsTaken (xs ++ ys) f b
taken_left xs ys f b taken = record { row = taken.row; among = Contains-append_left xs ys taken.row taken.among; frame = taken.frame; low = taken.low; high = taken.high }

taken_right : (xs ys : List InputRow) (f b : ℕ) → IsTaken ys f b → IsTaken (xs ++ ys) f b
taken_right xs ys f b taken = record { row = taken.row; among = Contains-append_right xs ys taken.row taken.among; frame = taken.frame; low = taken.low; high = taken.high }

module _ (program : NumberedProgram) (entry : List ℕ × Cells) (run : Run) (first : InputRow) (placed : Placed program entry run first) where
  fits : Fits program entry run first
  fits = record { is_run = placed.is_run; lies = placed.lies; first_is = placed.first_is }

  size_is : first.size ≡ run.bits
  size_is = fitting.size_is program entry run first fits

  -- the frame is there, and small
  pub frame_small : (first.frame < length program.frames) × (length program.frames ≤ 256)
      × (placed.lies.row.bits / 8 ≤ 65536)
  frame_small =
      let keeps : KeepsFrame placed.lies.row = All-contains KeepsFrame program.frames placed.lies.row placed.kept.frames.each (contained program.frames first.frame placed.lies.row placed.lies.at) in
      (slice_get_within program.frames first.frame placed.lies.row placed.lies.at, placed.kept.limits.frames, omega arith)

  -- the cells lie in the first bytes of their frame
  pub room_of : first.offset + run.count * (first.size / 8) ≤ placed.lies.row.bits / 8
  unfolding fits
  room_of = fitting.room_of program entry run first fits

  -- the rows of the entry are those from the first
  pub rows_are : rows_of program entry ≡ rows_from first run.count
  rows_are = fitting.rows_are program entry run first fits

  -- all rows keep the rules of rows for a program
  pub keep_more : (earlier : List InputRow) → KeepInputs program earlier → AreApart earlier (rows_from first run.count)
      → KeepInputs program (earlier ++ rows_from first run.count)
  keep_more earlier kept cross = fitting.keep_more program entry run first fits earlier kept cross

  -- none shares a byte with an earlier row if no byte has a mark
  apart_from : (earlier : List InputRow) (marks : List Bool) → All (KeepsInput program) earlier → AreMarks earlier marks
      → ¬ IsMarkedIn marks (start_of first) (end_of first run.count) → (a c : InputRow) → Contains earlier a
      → IsCellOf first run.count c → ShareNoByte a c
  apart_from earlier marks kept are free a c among is same =
      let a_keeps : KeepsInput program a = All-contains (KeepsInput program) earlier a kept among in
      let a_exact = eights a.size a_keeps.sized in
      let exact = eights run.bits placed.is_run.sized in
      let bits : c.size ≡ run.bits = is.size ∙ size_is in
      ⊎_elim
      (λ (before : a.offset + a.size / 8 < c.offset + 1). inl (omega (arith, before, a_exact.0)))
      (λ (not_before : c.offset + 1 ≤ a.offset + a.size / 8). ⊎_elim
      (λ (after_it : c.offset + c.size / 8 < a.offset + 1). inr (omega (arith, after_it, exact.0, bits)))
      (λ (not_after : a.offset + 1 ≤ c.offset + c.size / 8).
      let frame : a.frame ≡ first.frame = same ∙ is.frame in
      let byte : IsTaken earlier first.frame (max a.offset c.offset) = record { row = a; among = among; frame = frame; low = omega arith; high = omega (arith, not_before, not_after, a_exact, exact, bits) } in
      absurd (free (record {
        place = first.frame * 65536 + max a.offset c.offset;
        low = omega (arith, is.from);
        high = omega (arith, is.to, is.size, not_after, not_before, a_exact, exact, bits);
        marked = are.marked first.frame (max a.offset c.offset) byte;
      })))
      (below_or_not (c.offset + c.size / 8) (a.offset + 1)))
      (below_or_not (a.offset + a.size / 8) (c.offset + 1))

  pub free_apart : (earlier : List InputRow) (marks : List Bool) → All (KeepsInput program) earlier
      → AreMarks earlier marks → ¬ IsMarkedIn marks (start_of first) (end_of first run.count)
      → AreApart earlier (rows_from first run.count)
  free_apart earlier marks kept are free = all_members (λ a. All (ShareNoByte a) (rows_from first run.count)) earlier (λ a among. all_members (ShareNoByte a) (rows_from first run.count) (λ c further. apart_from earlier marks kept are free a c among (cell_of first run.count c further)))

  -- one does if some byte has a mark
  pub met_shares : (earlier : List InputRow) (marks : List Bool) → All (KeepsInput program) earlier
      → AreMarks earlier marks → IsMarkedIn marks (start_of first) (end_of first run.count)
      → AreApart earlier (rows_from first run.count) → ⊥
  met_shares earlier marks kept are met apart =
      let small = frame_small in
      let room = room_of in
      let byte : ℕ = met.place - first.frame * 65536 in
      let place : met.place ≡ first.frame * 65536 + byte = omega (arith, met.low) in
      let taken = are.taken first.frame byte (omega (arith, met.high, small, room)) (subst (λ k. slice_get marks k ≡ Some true) place met.marked) in
      let cell = taken_from first run.count byte (omega (arith, met.low)) (omega (arith, met.high, met.low)) in
      let a_keeps : KeepsInput program taken.row = All-contains (KeepsInput program) earlier taken.row kept taken.among in
      let a_exact = eights taken.row.size a_keeps.sized in
      let exact = eights run.bits placed.is_run.sized in
      let c_is = cell_of first run.count cell.row cell.among in
      let bits : cell.row.size ≡ run.bits = c_is.size ∙ size_is in
      let share : ShareNoByte taken.row cell.row = All-contains (ShareNoByte taken.row) (rows_from first run.count) cell.row (All-contains (λ a. All (ShareNoByte a) (rows_from first run.count)) earlier taken.row apart taken.among) cell.among in
      ⊎_elim
      (λ (before : 8 * taken.row.offset + taken.row.size ≤ 8 * cell.row.offset). absurd (omega (arith, before, a_exact.0, taken.high, cell.low)))
      (λ (past : 8 * cell.row.offset + cell.row.size ≤ 8 * taken.row.offset). absurd (omega (arith, past, exact.0, bits, cell.high, taken.low)))
      (share (taken.frame ∙ sym cell.frame))

  -- a byte between the first and the last of the cells is one of theirs
  taken_new : (f b : ℕ) → b < 65536 → start_of first ≤ f * 65536 + b → f * 65536 + b < end_of first run.count
      → IsTaken (rows_from first run.count) f b
  taken_new f b small from inside =
      let frame : first.frame ≡ f = omega (arith, frame_small, room_of) in
      subst (λ k. IsTaken (rows_from first run.count) k b) frame (taken_from first run.count b (omega (arith, frame)) (omega (arith, frame)))

  -- a mark stays
  kept_mark : (old new : List Bool) → MarksIn old new (start_of first) (end_of first run.count) → (place : ℕ)
      → slice_get old place ≡ Some true → slice_get new place ≡ Some true
  kept_mark old new marked place is = ⊎_elim
      (λ (before : place < start_of first). marked.outside place (inl before) ∙ is)
      (λ (from : start_of first ≤ place). ⊎_elim
      (λ (inside : place < end_of first run.count). marked.inside place from inside)
      (λ (past : end_of first run.count ≤ place). marked.outside place (inr past) ∙ is)
      (below_or_not place (end_of first run.count)))
      (below_or_not place (start_of first))

  -- once their bytes are marked, the marks are those of all rows
  pub marks_more : (earlier : List InputRow) (old new : List Bool) → AreMarks earlier old
      → MarksIn old new (start_of first) (end_of first run.count) → AreMarks (earlier ++ rows_from first run.count) new
  marks_more earlier old new are marked = record {
    taken = λ f b small is. ⊎_elim
        (λ (before : f * 65536 + b < start_of first). taken_left earlier (rows_from first run.count) f b (are.taken f b small (sym (marked.outside (f * 65536 + b) (inl before)) ∙ is)))
        (λ (from : start_of first ≤ f * 65536 + b). ⊎_elim
        (λ (inside : f * 65536 + b < end_of first run.count). taken_right earlier (rows_from first run.count) f b (taken_new f b small from inside))
        (λ (past : end_of first run.count ≤ f * 65536 + b). taken_left earlier (rows_from first run.count) f b (are.taken f b small (sym (marked.outside (f * 65536 + b) (inr past)) ∙ is)))
        (below_or_not (f * 65536 + b) (end_of first run.count)))
        (below_or_not (f * 65536 + b) (start_of first));
    marked = λ f b taken. ⊎_elim
        (λ (old_one : Contains earlier taken.row). kept_mark old new marked (f * 65536 + b) (are.marked f b (record { row = taken.row; among = old_one; frame = taken.frame; low = taken.low; high = taken.high })))
        (λ (new_one : Contains (rows_from first run.count) taken.row). let is = cell_of first run.count taken.row new_one in marked.inside (f * 65536 + b) (omega (arith, is.frame, is.from, taken.frame, taken.low)) (omega (arith, is.frame, is.to, is.size, taken.frame, taken.high)))
        (Contains-append_cases earlier (rows_from first run.count) taken.row taken.among);
  }
