-- The rows of the code's table.
--   rows_long     as many as the code's table has
--   row_is        a row of the code is the table's, row_edge an edge leads to each node of it, and row_low each node of it has a row
use Rattle.std.proofs.Common.{◌≡◌, ◌<◌, ℕ, List, [], Vec, Global, get_or, length, Contains, ap, sym, ◌∙◌, subst, arith}
use Rattle.std.proofs.lemmas.List.{length-map, get_or-map}
use Rattle.std.proofs.lemmas.List.Elements.{Contains-get_or}
use Rattle.graph_walks.specs.Tables.{HasEdge, IsClosed, rows_of}

-- as many as the code's table has
pub rows_long : (rows : List (Vec ℕ Global)) → length (rows_of rows) ≡ length rows
rows_long rows = length-map rows (λ (x : Vec ℕ Global). x.items)

module _ (rows : List (Vec ℕ Global)) (n : ℕ) (v : Vec ℕ Global) (row : List ℕ) (inside : n < length rows) (is_v : v ≡ get_or rows n v) (is_row : row ≡ v.items) where
  -- a row of the code is the table's
  pub row_is : get_or (rows_of rows) n [] ≡ row
  row_is = get_or-map (λ (x : Vec ℕ Global). x.items) rows n v [] inside ∙ ap (λ (x : Vec ℕ Global). x.items) (sym is_v) ∙ sym is_row

  -- an edge leads to each node of it
  pub row_edge : (k d : ℕ) → k < length row → HasEdge (rows_of rows) n (get_or row k d)
  row_edge k d low = subst (λ (xs : List ℕ). Contains xs (get_or row k d)) (sym row_is) (Contains-get_or row k d low)

  -- so each node of it has a row
  pub row_low : IsClosed (rows_of rows) → (k d : ℕ) → k < length row → get_or row k d < length rows
  row_low closed k d low =
      let there = closed n (get_or row k d) (row_edge k d low) in
      let long = rows_long rows in
      omega arith
