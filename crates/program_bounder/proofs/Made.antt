-- Rows with other ranges, one after the other.
use Rattle.std.proofs.Common.{◌≡◌, ◌≤◌, ◌<◌, ◌+◌, ℕ, List, [], ◌∷◌, ◌++◌, length, get_or, drop, sym, ap, ◌∙◌, append_assoc, append-nil}
use Rattle.std.proofs.lemmas.List.{drop_more, at_drop_all}
use Rattle.alf_check.specs.declared.rows.InputRow.{InputRow}
use Rattle.worst_inputs.specs.declared.area.Range.{Range}
use Rattle.worst_inputs.specs.Areas.{Area}
use Rattle.program_bounder.specs.InputRows.{with_range, with_ranges}

module _ (rows : List InputRow) (area : Area) (place : ℕ) (made : List InputRow) (so_far : made ++ with_ranges (drop place rows) (drop place area) ≡ with_ranges rows area) where
  -- one row more
  pub made_more : (row : InputRow) (range : Range) → place < length rows → place < length area
      → (made ++ with_range (get_or rows place row) (get_or area place range) ∷ []) ++ with_ranges (drop (place + 1) rows) (drop (place + 1) area) ≡ with_ranges rows area
  made_more row range low within =
      let first = with_range (get_or rows place row) (get_or area place range) in
      append_assoc made (first ∷ []) (with_ranges (drop (place + 1) rows) (drop (place + 1) area))
      ∙ ap (λ (rs : List InputRow). made ++ rs)
      (sym (ap (λ (rs : List InputRow). with_ranges rs (drop place area)) (drop_more rows place row low)
      ∙ ap (with_ranges (get_or rows place row ∷ drop (place + 1) rows)) (drop_more area place range within)))
      ∙ so_far

  -- and all
  pub made_all : length rows ≤ place → made ≡ with_ranges rows area
  made_all over = sym (append-nil made) ∙ ap (λ (rs : List InputRow). made ++ rs) (sym (at_drop_all (λ (rs : List InputRow). with_ranges rs (drop place area)) rows place over)) ∙ so_far
