-- What an inputs file means keeps the rules of rows.
--   means_keep   the rows of right entries do
use Rattle.std.proofs.Common.{◌≡◌, ◌≤◌, ◌<◌, ◌+◌, ◌++◌, ⊎_elim, ℕ, zero, suc, List, [], length, take, Option, None, Some, slice_get, get_or, refl, ap, sym, ◌∙◌, subst, arith}
use Rattle.std.specs.Option.{option_map_or}
use Rattle.std.proofs.lemmas.List.{take_all}
use Rattle.std.proofs.lemmas.List.Elements.{All-nil}
use Rattle.std.proofs.lemmas.Option.{slice_get_cases}
use Rattle.toml.specs.Data.{Data}
use Rattle.alf_check.specs.declared.rows.InputRow.{InputRow}
use Rattle.alf_check.specs.CheckedPrograms.{NumberedProgram}
use Rattle.alf_check.specs.Inputs.{KeepsInput, KeepInputs}
use Rattle.cost_table.specs.Entries.{AllRight}
use Rattle.cost_table.specs.declared.input_entry.Cells.{Cells}
use Rattle.cost_table.specs.Inputs.{AreApart, IsRightInput, entry_rows, first_row, input_judging, rows_from, rows_in, rows_of}
use Rattle.cost_table.specs.Laws.{RowsKeepTheRules}
use Rattle.cost_table.proofs.Fitting.{Fits, keep_more, rows_are}
use Rattle.cost_table.proofs.Steps.{more_made}

module _ (program : NumberedProgram) (entries : List Data) (right : AllRight (input_judging program) entries) where
  -- with the rows of one entry more
  more_keep : (n : ℕ) (datum : Data) → slice_get entries n ≡ Some datum
      → KeepInputs program (rows_in program (take n entries))
      → KeepInputs program (rows_in program (take (n + 1) entries))
  more_keep n datum at kept =
      let is : IsRightInput program (rows_in program (take n entries)) datum = right n datum at in
      let earlier = rows_in program (take n entries) in
      let run = is.in_range.run in
      let first = first_row is.entry.1 is.there.frame in
      let fits : Fits program is.entry run first = record { is_run = is.in_range.is_run; lies = is.there.lies; first_is = refl } in
      let rows : rows_of program is.entry ≡ rows_from first run.count = rows_are program is.entry run first fits in
      let told : entry_rows program datum ≡ rows_of program is.entry = ap (λ (entry : Option (List ℕ × Cells)). option_map_or (rows_of program) entry []) is.has_keys in
      let more : rows_in program (take (n + 1) entries) ≡ earlier ++ rows_from first run.count =
      more_made (entry_rows program) entries n datum at ∙ ap (λ (rows : List InputRow). earlier ++ rows) (told ∙ rows) in
      subst (KeepInputs program) (sym more) (keep_more program is.entry run first fits earlier kept (subst (AreApart earlier) rows is.there.apart))

  -- of the first entries
  first_keep : (n : ℕ) → KeepInputs program (rows_in program (take n entries))
  first_keep zero = record { each = All-nil (KeepsInput program); apart = λ i j d less low. absurd (omega arith) }
  first_keep (suc n) = ⊎_elim
      (λ (there : (datum : Data) × (n < length entries) × (slice_get entries n ≡ Some datum) × (get_or entries n datum ≡ datum)).
      let next : n + 1 ≡ suc n = omega arith in
      subst (λ k. KeepInputs program (rows_in program (take k entries))) next (more_keep n there.0 there.2 (first_keep n)))
      (λ (past : (length entries ≤ n) × (slice_get entries n ≡ None)).
      subst (λ (some : List Data). KeepInputs program (rows_in program some)) (take_all n entries past.0 ∙ sym (take_all (suc n) entries (omega (arith, past.0)))) (first_keep n))
      (slice_get_cases entries n).1

pub means_keep : RowsKeepTheRules
means_keep bytes program rows h =
    subst (KeepInputs program) (ap (rows_in program) (take_all (length h.entries) h.entries (omega arith)) ∙ sym h.all) (first_keep program h.entries h.right (length h.entries))
