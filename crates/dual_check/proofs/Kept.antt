-- What the program that is made keeps.
use Rattle.std.proofs.Common.{◌≡◌, ◌==◌, ◌<◌, ◌≤◌, ◌^◌, ◌-◌, ℕ, zero, suc, ℤ, List, [], ◌∷◌, map, length, All, refl, ap, sym, ◌∙◌, subst, arith, Option, Some, None}
use Rattle.std.specs.List.{flat_map, range_with_len}
use Rattle.std.proofs.lemmas.List.{length-map, length-append}
use Rattle.std.proofs.lemmas.List.FromFn.{length-range_with_len}
use Rattle.domain_core.specs.Outlines.{Shape, Outlined, shape_of}
use Rattle.ipet_rows.specs.Sums.{IsAscending}
use Rattle.ipet_rows.specs.Programs.{Row, IsWithin, row_at, cost_at}
use Rattle.ipet_rows.specs.Columns.{Column}
use Rattle.ipet_rows.specs.Weights.{Weighing}
use Rattle.ipet_rows.specs.Rows.{row_of, cost_of}
use Rattle.ipet_rows.specs.PathSparseLaws.{terms_within, terms_ascend, terms_count}
use Rattle.dual_check.specs.declared.constraint.Constraint.{Constraint}
use Rattle.dual_check.specs.Small.{ConstraintFits}
use Rattle.dual_check.specs.Systems.{System, IsSystem, AreColumns, AreOf}
use Rattle.dual_check.specs.Constraints.{weighing_of, is_limit_of}
use Rattle.dual_check.specs.Openings.{place_of, both_of, opening_of, openings_of, costs_of, system_from}
use Rattle.dual_check.proofs.Small.{rows_small}

-- ---- rows

rows_within : (columns : List Column) (w : Constraint → Weighing) (ks : List Constraint) (k : ℕ)
    → IsWithin (length columns) (row_at (map (λ c. row_of columns (w c)) ks) k).terms
rows_within columns w [] k = tt
rows_within columns w (c ∷ ks) zero = terms_within (w c).weight 0 (length columns) columns (omega arith)
rows_within columns w (c ∷ ks) (suc k) = rows_within columns w ks k

rows_ascend : (columns : List Column) (w : Constraint → Weighing) (ks : List Constraint) (k : ℕ)
    → IsAscending (row_at (map (λ c. row_of columns (w c)) ks) k).terms
rows_ascend columns w [] k = tt
rows_ascend columns w (c ∷ ks) zero = terms_ascend (w c).weight 0 columns
rows_ascend columns w (c ∷ ks) (suc k) = rows_ascend columns w ks k

-- ---- openings

one_opening : (a b : Option ℕ) → length (both_of a b) ≤ 1
one_opening None b = omega arith
one_opening (Some a) None = omega arith
one_opening (Some a) (Some b) = omega arith

few_flat : (columns : List Column) (ks : List Constraint) (xs : List ℕ)
    → length (flat_map (λ m. opening_of columns ks m) xs) ≤ length xs
few_flat columns ks [] = omega arith
few_flat columns ks (x ∷ xs) =
    let one = one_opening (place_of (λ k. is_limit_of x k) 0 ks) (place_of (λ c. x == c.from) 0 columns) in
    let later = few_flat columns ks xs in
    let long = length-append (opening_of columns ks x) (flat_map (λ m. opening_of columns ks m) xs) in
    omega (arith, one, later, long)

few_openings : (columns : List Column) (ks : List Constraint) (n : ℕ) → length (openings_of columns ks n) ≤ n
few_openings columns ks n = omega (arith, few_flat columns ks (range_with_len 0 n), length-range_with_len 0 n)

-- what the program keeps
pub system_is : (o : Outlined) (columns : List Column) (ks : List Constraint) → length columns < 2 ^ 32 - 1
    → length ks < 2 ^ 32 - 1 → length o.nodes < 2 ^ 32 - 1
    → ((e : ℕ) → cost_at (map (λ c. cost_of (costs_of o) c) columns) e < 2 ^ 32) → All ConstraintFits ks → IsSystem (system_from o columns ks)
system_is o columns ks few_columns few_rows few_nodes costs fit =
    let long : length (map (λ c. cost_of (costs_of o) c) columns) ≡ length columns = length-map columns (λ c. cost_of (costs_of o) c) in
    let tall : length (map (λ k. row_of columns (weighing_of (shape_of o) k)) ks) ≡ length ks = length-map ks (λ k. row_of columns (weighing_of (shape_of o) k)) in
    let opened = few_openings columns ks (length o.nodes) in
    record {
      few_columns = omega (arith, long, few_columns);
      few_rows = omega (arith, tall, few_rows);
      few_openings = omega (arith, opened, few_nodes);
      within = λ k. subst (λ (n : ℕ). IsWithin n (row_at (map (λ c. row_of columns (weighing_of (shape_of o) c)) ks) k).terms) (sym long) (rows_within columns (weighing_of (shape_of o)) ks k);
      ascending = λ k. rows_ascend columns (weighing_of (shape_of o)) ks k;
      small = rows_small o columns ks costs fit few_rows;
    }

-- ---- rows by their terms

-- the terms of rows are of the columns, ascend, and none is 0
pub rows_of_columns : (o : Shape) (columns : List Column) (ks : List Constraint) (rows : List Row) (n : ℕ)
    → rows ≡ map (λ k. row_of columns (weighing_of o k)) ks → n ≡ length columns → AreOf n rows
rows_of_columns o columns ks rows n is count = subst (λ (rs : List Row). AreOf n rs) (sym is) (each_row ks)
  where
    each_row : (ks : List Constraint) → AreOf n (map (λ k. row_of columns (weighing_of o k)) ks)
    each_row [] = tt
    each_row (k ∷ ks) =
        let w = (weighing_of o k).weight in
        (terms_within w 0 n columns (omega (arith, count)), terms_ascend w 0 columns, terms_count w 0 columns, each_row ks)

-- the parts are those of the program
pub system_parts : (o : Outlined) (columns : List Column) (ks : List Constraint) (costs : List ℕ) (rows : List Row) (openings : List (ℕ × ℕ))
    → costs ≡ map (λ c. cost_of (costs_of o) c) columns → rows ≡ map (λ k. row_of columns (weighing_of (shape_of o) k)) ks → openings ≡ openings_of columns ks (length o.nodes)
    → (let s : System = record { program = record { costs = costs; rows = rows }; openings = openings } in s) ≡ system_from o columns ks
system_parts o columns ks costs rows openings a b d = rw (a, b, d) refl

-- and keep what every program keeps
pub system_kept : (o : Outlined) (columns : List Column) (ks : List Constraint) (costs : List ℕ) (rows : List Row) (openings : List (ℕ × ℕ)) (lists : List (List (ℕ × ℤ)))
    → costs ≡ map (λ c. cost_of (costs_of o) c) columns → rows ≡ map (λ k. row_of columns (weighing_of (shape_of o) k)) ks → openings ≡ openings_of columns ks (length o.nodes)
    → AreColumns (length columns) rows lists → length columns < 2 ^ 32 - 1 → length ks < 2 ^ 32 - 1 → length o.nodes < 2 ^ 32 - 1
    → ((e : ℕ) → cost_at costs e < 2 ^ 32) → All ConstraintFits ks
    → IsSystem (record { program = record { costs = costs; rows = rows }; openings = openings }) × AreColumns (length costs) rows lists
system_kept o columns ks costs rows openings lists a b d e few_columns few_rows few_nodes prices fit = (
  subst IsSystem (sym (system_parts o columns ks costs rows openings a b d)) (system_is o columns ks few_columns few_rows few_nodes (subst (λ (cs : List ℕ). (e : ℕ) → cost_at cs e < 2 ^ 32) a prices) fit),
  subst (λ (n : ℕ). AreColumns n rows lists) (let long : length columns ≡ length costs = sym (length-map columns (λ c. cost_of (costs_of o) c)) ∙ ap length (sym a) in long) e,
)
