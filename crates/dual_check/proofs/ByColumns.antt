-- Terms by columns.
use Rattle.std.proofs.Common.{◌≡◌, ◌<◌, ◌+◌, ℕ, ℤ, zero, suc, List, [], ◌∷◌, length, get_or, refl, ap, sym, ◌∙◌, subst, arith, Ok, Err, Some, None, pos}
use Rattle.std.specs.Prelude.{Result, ◌*ℤ◌}
use Rattle.whole_numbers.specs.MultipleLaws.{by_test}
use Rattle.ipet_rows.specs.Sums.{coefficient}
use Rattle.ipet_rows.specs.Programs.{Row, Program, IsWithin, cost_at}
use Rattle.ipet_rows.specs.Rows.{vanishes}
use Rattle.ipet_rows.specs.Duals.{column_part, column_sum}
use Rattle.ipet_rows.specs.Verdicts.{column_test, column_at, first_wide}
use Rattle.ipet_rows.specs.declared.verdict.Verdict.TheVariants.{Wide}
use Rattle.ipet_rows.specs.Sparse.{column_terms, summed_terms}
use Rattle.ipet_rows.specs.DualSparseLaws.{Sums, column_summed}
use Rattle.dual_check.specs.Systems.{columns_from, AreColumns}

column_from : (n e b : ℕ) (rows : List Row) (j : ℕ) (d : List (ℕ × ℤ)) → j < n → e ≡ b + j
    → get_or (columns_from n b rows) j d ≡ column_terms e 0 rows
column_from zero e b rows j d below is = absurd (omega arith)
column_from (suc n) e b rows zero d below is = ap (λ (k : ℕ). column_terms k 0 rows) (let same : b ≡ e = omega arith in same)
column_from (suc n) e b rows (suc j) d below is = column_from n e (b + 1) rows j d (omega arith) (omega arith)

-- the terms at a column
pub column_there : (n : ℕ) (rows : List Row) (columns : List (List (ℕ × ℤ))) (e : ℕ) (d : List (ℕ × ℤ))
    → AreColumns n rows columns → e < n → get_or columns e d ≡ column_terms e 0 rows
column_there n rows columns e d are below = subst (λ (c : List (List (ℕ × ℤ))). get_or c e d ≡ column_terms e 0 rows) (sym are) (column_from n e 0 rows e d below (omega arith))

columns_length : (n e : ℕ) (rows : List Row) → length (columns_from n e rows) ≡ n
columns_length zero e rows = refl
columns_length (suc n) e rows = ap suc (columns_length n (e + 1) rows)

pub columns_count : (n : ℕ) (rows : List Row) (columns : List (List (ℕ × ℤ))) → AreColumns n rows columns
    → length columns ≡ n
columns_count n rows columns are = ap length are ∙ columns_length n 0 rows

-- a column's terms are of the rows
terms_from_row : (e b n : ℕ) (rows : List Row) → n ≡ b + length rows → IsWithin n (column_terms e b rows)
terms_from_row e b n [] is = tt
terms_from_row e b n (r ∷ rows) is = by_test (vanishes (coefficient r.terms e))
    (λ none. rw none (terms_from_row e (b + 1) n rows (omega arith)))
    (λ some. rw some (omega arith, terms_from_row e (b + 1) n rows (omega arith)))

pub column_within : (e n : ℕ) (rows : List Row) → n ≡ length rows → IsWithin n (column_terms e 0 rows)
column_within e n rows is = terms_from_row e 0 n rows (omega arith)

summed_as : (p : Program) (y : List ℤ) (e : ℕ) (answer : Result ℤ ℕ)
    → answer ≡ summed_terms y (column_terms e 0 p.rows) (pos 0) → Sums (length p.rows) (column_part p y e) answer
summed_as p y e answer is = subst (λ (a : Result ℤ ℕ). Sums (length p.rows) (column_part p y e) a) (sym is) (column_summed p y e)

-- a column's verdict where its sum is wide
pub column_wide : (p : Program) (scale : ℤ) (y : List ℤ) (e k : ℕ) (answer : Result ℤ ℕ)
    → answer ≡ summed_terms y (column_terms e 0 p.rows) (pos 0) → answer ≡ Err k → Some (Wide k) ≡ column_at p scale y e
column_wide p scale y e k answer is err =
    let wide : first_wide (length p.rows) (column_part p y e) ≡ Some k = summed_as p y e (Err k) (sym err ∙ is) in
    rw wide refl

-- and where it is not
pub column_narrow : (p : Program) (scale : ℤ) (y : List ℤ) (e : ℕ) (sum : ℤ) (answer : Result ℤ ℕ)
    → answer ≡ summed_terms y (column_terms e 0 p.rows) (pos 0) → answer ≡ Ok sum
    → column_test (length p.rows) e (scale *ℤ pos (cost_at p.costs e)) sum ≡ column_at p scale y e
column_narrow p scale y e sum answer is good =
    let both : (first_wide (length p.rows) (column_part p y e) ≡ None) × (sum ≡ column_sum p y e) = summed_as p y e (Ok sum) (sym good ∙ is) in
    rw (both.0, both.1) refl
