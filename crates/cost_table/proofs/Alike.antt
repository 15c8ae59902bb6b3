-- The table in which every block has one cost.
--   alike program cost n     the rows of the first n functions
--   alike_push               those of one more
--   alike_table              the table of all functions
use Rattle.std.proofs.Common.{◌≡◌, ◌<◌, ◌≤◌, ⊎_elim, ◌+◌, ℕ, List, [], ◌∷◌, ◌++◌, map, length, get_or, replicate, Some, slice_get, refl, ap, sym, ◌∙◌, arith}
use Rattle.std.specs.List.{range_with_len}
use Rattle.std.proofs.lemmas.List.{get_or-replicate, length-replicate}
use Rattle.std.proofs.Math.ListN.{get_or-eq_default}
use Rattle.std.proofs.lemmas.List.FromFn.{get_or-map-range_with_len, length-map-range_with_len, map-range_with_len_more}
use Rattle.std.proofs.lemmas.Option.{get_or_from_slice_get, slice_get_within}
use Rattle.alf_check.specs.CheckedPrograms.{NumberedProgram, blocks_at}
use Rattle.cost_table.specs.Costs.{IsCostTable}
use Rattle.cost_table.proofs.Costing.{cost_get}
use Rattle.cost_table.proofs.Orders.{below_or_not}

-- the row of function f
abbrev pub alike_row : NumberedProgram → ℕ → ℕ → List ℕ
alike_row program cost f = replicate (length (blocks_at program f)) cost

-- the rows of the first n functions
abbrev pub alike : NumberedProgram → ℕ → ℕ → List (List ℕ)
alike program cost n = map (alike_row program cost) (range_with_len 0 n)

-- those of one more
alike_more : (program : NumberedProgram) (cost n : ℕ)
    → alike program cost (n + 1) ≡ alike program cost n ++ alike_row program cost n ∷ []
alike_more program cost n = map-range_with_len_more (alike_row program cost) 0 n n (omega arith)

-- the rows with one more
pub alike_push : (program : NumberedProgram) (cost n : ℕ) (rows : List (List ℕ)) (row : List ℕ)
    → rows ≡ alike program cost n → row ≡ alike_row program cost n → rows ++ row ∷ [] ≡ alike program cost (n + 1)
alike_push program cost n rows row rows_are row_is = rw (rows_are, row_is) (sym (alike_more program cost n))

-- each row is that of its function
row_is : (program : NumberedProgram) (cost n f : ℕ) (row : List ℕ) → slice_get (alike program cost n) f ≡ Some row
    → row ≡ alike_row program cost f
row_is program cost n f row at =
    let low : f < n = omega (arith, slice_get_within (alike program cost n) f row at, length-map-range_with_len (alike_row program cost) 0 n) in
    sym (get_or_from_slice_get (alike program cost n) f row [] at) ∙ get_or-map-range_with_len (alike_row program cost) 0 n f f [] low (omega arith)

-- each element of a row is the cost
cost_of_row : (n b cost : ℕ) → get_or (replicate n cost) b cost ≡ cost
cost_of_row n b cost = ⊎_elim
    (λ (low : b < n). get_or-replicate n b cost cost low)
    (λ (high : n ≤ b). get_or-eq_default (replicate n cost) cost (omega (arith, high, length-replicate n cost)))
    (below_or_not b n)

-- each cost is the cost
cost_is : (program : NumberedProgram) (cost n f b : ℕ) → get_or (get_or (alike program cost n) f []) b cost ≡ cost
cost_is program cost n f b = ⊎_elim
    (λ (low : f < n). ap (λ (row : List ℕ). get_or row b cost) (get_or-map-range_with_len (alike_row program cost) 0 n f f [] low (omega arith)) ∙ cost_of_row (length (blocks_at program f)) b cost)
    (λ (high : n ≤ f). ap (λ (row : List ℕ). get_or row b cost) (get_or-eq_default (alike program cost n) [] (omega (arith, high, length-map-range_with_len (alike_row program cost) 0 n))))
    (below_or_not f n)

-- the table of all functions
pub alike_table : (program : NumberedProgram) (cost n : ℕ) (rows : List (List ℕ)) → n ≡ length program.funcs
    → rows ≡ alike program cost n → IsCostTable program cost [] (record { rows = rows; others = cost })
alike_table program cost n rows all is = rw is (record {
  rows = record {
    functions = length-map-range_with_len (alike_row program cost) 0 n ∙ all;
    blocks = λ f row at. ap length (row_is program cost n f row at) ∙ length-replicate (length (blocks_at program f)) cost;
  };
  others = refl;
  gives = λ f b. cost_get (record { rows = alike program cost n; others = cost }) f b ∙ cost_is program cost n f b;
})
