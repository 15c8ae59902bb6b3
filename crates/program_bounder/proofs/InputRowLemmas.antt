-- On the way to the laws of input row.
--   own_ranges       rows with their own ranges are the rows
--   are_ranges       the ranges of rows that keep the rules are ranges
use Rattle.std.proofs.Common.{◌≡◌, ◌==◌, ◌≤◌, ◌-◌, ◌^◌, ℕ, true, List, [], ◌∷◌, All, refl, ap, arith, rules}
use Rattle.std.proofs.lemmas.Int.{ints}
use Rattle.std.proofs.Math.Pow.{pow_mono}
use Rattle.std.proofs.lemmas.List.Elements.{All-nil, All-cons, All-head, All-tail}
use Rattle.lists.specs.TestLaws.{by_test}
use Rattle.alf_faults.specs.Sizes.{is_export_size}
use Rattle.alf_check.specs.declared.rows.InputRow.{InputRow}
use Rattle.alf_check.specs.CheckedPrograms.{NumberedProgram}
use Rattle.alf_check.specs.Inputs.{KeepsInput}
use Rattle.worst_inputs.specs.Areas.{IsRange}
use Rattle.program_bounder.specs.InputRows.{range_of, ranges_of, with_ranges}

-- ---- what a run knows of ranges

-- rows with their own ranges
pub own_ranges : (rows : List InputRow) → with_ranges rows (ranges_of rows) ≡ rows
own_ranges [] = refl
own_ranges (row ∷ rows) = ap (λ (rs : List InputRow). row ∷ rs) (own_ranges rows)

-- ---- ranges

-- a cell of an input has at most 64 bits
export_low : (n : ℕ) → is_export_size n ≡ true → n ≤ 64
export_low n h =
    by_test (n == 8)
    (λ e. let is : n ≡ 8 = search rules in omega arith)
    (λ a. by_test (n == 16)
    (λ e. let is : n ≡ 16 = search rules in omega arith)
    (λ b. by_test (n == 32)
    (λ e. let is : n ≡ 32 = search rules in omega arith)
    (λ c. let last : (n == 64) ≡ true = rw (a, b, c) at h in let is : n ≡ 64 = search rules in omega arith)))

-- the range of a row that keeps the rules is a range
is_range : (program : NumberedProgram) (row : InputRow) → KeepsInput program row → IsRange (range_of row)
is_range program row keeps =
    let size = export_low row.size keeps.sized in
    let half : 2 ^ (row.size - 1) ≤ 2 ^ 64 = pow_mono {i = row.size - 1} {j = 64} (omega arith) in
    let whole : 2 ^ row.size ≤ 2 ^ 64 = pow_mono {i = row.size} {j = 64} size in
    let l = keeps.least in
    let m = keeps.most in
    record { ordered = keeps.ordered; least = omega (arith, ints); most = omega (arith, ints) }

pub are_ranges : (program : NumberedProgram) (rows : List InputRow) → All (KeepsInput program) rows
    → All IsRange (ranges_of rows)
are_ranges program [] all = All-nil IsRange
are_ranges program (row ∷ rows) all =
    All-cons IsRange (range_of row) (ranges_of rows)
    (is_range program row (All-head (KeepsInput program) row rows all)) (are_ranges program rows (All-tail (KeepsInput program) row rows all))
