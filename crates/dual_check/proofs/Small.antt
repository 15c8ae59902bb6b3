-- The numbers of the rows that constraints make are small.
--   weight_small    what a row weighs
--   cost_fits       the cost of a column
--   rows_small      so costs, coefficients, right sides and the number of rows have about 32 bits
use Rattle.std.proofs.Common.{◌≡◌, ◌<◌, ◌==◌, ◌^◌, ◌-◌, ℕ, zero, suc, pos, Bool, true, false, List, [], ◌∷◌, get_or, map, length, All, sym, subst, arith}
use Rattle.std.specs.Prelude.{◌*ℤ◌, ◌≤ℤ◌, ◌&&◌, not}
use Rattle.std.proofs.lemmas.Int.{ints}
use Rattle.std.proofs.lemmas.List.{length-map}
use Rattle.std.proofs.lemmas.List.Elements.{All-head, All-tail}
use Rattle.domain_core.specs.Outlines.{Shape, Outlined, shape_of, is_held}
use Rattle.ipet_rows.specs.Sums.{coefficient}
use Rattle.ipet_rows.specs.Programs.{row_at, cost_at}
use Rattle.ipet_rows.specs.Columns.{Column}
use Rattle.ipet_rows.specs.Weights.{one_if}
use Rattle.ipet_rows.specs.Rows.{row_of, cost_of}
use Rattle.ipet_rows.specs.PathSparseLaws.{weight_at, coefficient_is}
use Rattle.dual_check.specs.declared.constraint.Constraint.{Constraint}
use Rattle.dual_check.specs.declared.constraint.Constraint.TheVariants.{Flow, Most, Least, Limit, Demand, Apart}
use Rattle.dual_check.specs.Small.{IsUpTo, IsSmall, ConstraintFits}
use Rattle.dual_check.specs.Constraints.{weighing_of}
use Rattle.dual_check.specs.Openings.{costs_of, system_from}

-- ---- what a row weighs

one_between : (v : Bool) → (pos 0 ≤ℤ one_if v) × (one_if v ≤ℤ pos 1)
one_between true = (omega (arith, ints), omega (arith, ints))
one_between false = (omega (arith, ints), omega (arith, ints))

so_many : (n : ℕ) (v : Bool) → n < 2 ^ 32 → (pos 0 ≤ℤ (pos n *ℤ one_if v)) × ((pos n *ℤ one_if v) ≤ℤ pos 4294967296)
so_many n true few = (omega (arith, ints), omega (arith, ints, few))
so_many n false few = (omega (arith, ints), omega (arith, ints))

-- what a row weighs
weight_small : (o : Shape) (k : Constraint) (c : Column) → ConstraintFits k
    → IsUpTo 8589934592 ((weighing_of o k).weight c)
weight_small o (Flow n) c fits =
    let out = one_between (n == c.from) in
    let back = one_between (n == c.into) in
    (omega (arith, ints, out.0, back.1), omega (arith, ints, out.1, back.0))
weight_small o (Most s header n high) c fits =
    let out = one_between (n == c.from) in
    let many = so_many high ((header == c.into) && not (is_held o s c.from)) fits in
    (omega (arith, ints, out.0, many.1), omega (arith, ints, out.1, many.0))
weight_small o (Least s header n low) c fits =
    let out = one_between (n == c.from) in
    let many = so_many low ((header == c.into) && not (is_held o s c.from)) fits in
    (omega (arith, ints, out.1, many.0), omega (arith, ints, out.0, many.1))
weight_small o (Limit n high) c fits = let out = one_between (n == c.from) in (omega (arith, ints, out.0), omega (arith, ints, out.1))
weight_small o (Demand n low) c fits = let out = one_between (n == c.from) in (omega (arith, ints, out.1), omega (arith, ints, out.0))
weight_small o (Apart header a b) c fits =
    let first = one_between (a == c.from) in
    let second = one_between (b == c.from) in
    let third = one_between (header == c.from) in
    (omega (arith, ints, first.0, second.0, third.1), omega (arith, ints, first.1, second.1, third.0))

right_small : (o : Shape) (k : Constraint) → ConstraintFits k → IsUpTo 8589934592 (weighing_of o k).right
right_small o (Flow n) fits = let one = one_between (n == 0) in (omega (arith, ints, one.0), omega (arith, ints, one.1))
right_small o (Most s header n high) fits = (omega (arith, ints), omega (arith, ints))
right_small o (Least s header n low) fits = (omega (arith, ints), omega (arith, ints))
right_small o (Limit n high) fits = (omega (arith, ints), omega (arith, ints, fits))
right_small o (Demand n low) fits = (omega (arith, ints, fits), omega (arith, ints))
right_small o (Apart header a b) fits = (omega (arith, ints), omega (arith, ints))

-- ---- the program

nothing_small : IsUpTo 8589934592 (pos 0)
nothing_small = (omega (arith, ints), omega (arith, ints))

weights_small : (o : Shape) (k : Constraint) (columns : List Column) (e : ℕ) → ConstraintFits k
    → IsUpTo 8589934592 (weight_at (weighing_of o k).weight columns e)
weights_small o k [] e fits = nothing_small
weights_small o k (c ∷ columns) zero fits = weight_small o k c fits
weights_small o k (c ∷ columns) (suc e) fits = weights_small o k columns e fits

numbers_small : (o : Shape) (columns : List Column) (ks : List Constraint) (k e : ℕ) → All ConstraintFits ks
    → IsUpTo 8589934592 (coefficient (row_at (map (λ x. row_of columns (weighing_of o x)) ks) k).terms e)
numbers_small o columns [] k e fit = nothing_small
numbers_small o columns (x ∷ ks) zero e fit =
    subst (IsUpTo 8589934592) (sym (coefficient_is (weighing_of o x).weight 0 columns e e (omega arith))) (weights_small o x columns e (All-head ConstraintFits x ks fit))
numbers_small o columns (x ∷ ks) (suc k) e fit = numbers_small o columns ks k e (All-tail ConstraintFits x ks fit)

rights_small : (o : Shape) (columns : List Column) (ks : List Constraint) (k : ℕ) → All ConstraintFits ks
    → IsUpTo 8589934592 (row_at (map (λ x. row_of columns (weighing_of o x)) ks) k).right
rights_small o columns [] k fit = nothing_small
rights_small o columns (x ∷ ks) zero fit = right_small o x (All-head ConstraintFits x ks fit)
rights_small o columns (x ∷ ks) (suc k) fit = rights_small o columns ks k (All-tail ConstraintFits x ks fit)

-- the cost of a column is the number at its place
pub cost_fits : (costs : List ℕ) (e : ℕ) → get_or costs e 0 < 2 ^ 32 → cost_at costs e < 2 ^ 32
cost_fits [] e fits = omega arith
cost_fits (c ∷ costs) zero fits = fits
cost_fits (c ∷ costs) (suc e) fits = cost_fits costs e fits

-- costs, coefficients, right sides and the number of rows have about 32 bits
pub rows_small : (o : Outlined) (columns : List Column) (ks : List Constraint)
    → ((e : ℕ) → cost_at (map (λ c. cost_of (costs_of o) c) columns) e < 2 ^ 32)
    → All ConstraintFits ks → length ks < 2 ^ 32 - 1 → IsSmall (system_from o columns ks).program
rows_small o columns ks costs fit few =
    let tall : length (map (λ k. row_of columns (weighing_of (shape_of o) k)) ks) ≡ length ks = length-map ks (λ k. row_of columns (weighing_of (shape_of o) k)) in
    record {
      rows = omega (arith, tall, few);
      costs = λ e. let low = costs e in omega (arith, low);
      numbers = λ k e. numbers_small (shape_of o) columns ks k e fit;
      rights = λ k. rights_small (shape_of o) columns ks k fit;
    }
