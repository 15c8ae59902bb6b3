-- Numbers below a bound.
--   below_some, below_is     the number is one, is it one
use Rattle.std.proofs.Common.{◌≡◌, ◌<◌, ℕ, pos, true, Some, ltb, refl, ap, arith}
use Rattle.std.proofs.lemmas.Bool.Decides.{nat_tests}
use Rattle.std.proofs.lemmas.Option.{same_Some, none-some}
use Rattle.std.specs.Prelude.{ℤ}
use lib.IntN.{negsuc}
use Rattle.lists.specs.TestLaws.{by_test}
use Rattle.cost_table.specs.Costs.{below}

-- a number below the bound
pub below_some : (n : ℕ) (z : ℤ) (k : ℕ) → below n z ≡ Some k → (z ≡ pos k) × (k < n)
below_some n (pos j) k e = by_test (ltb j n)
    (λ t. let same : j ≡ k = same_Some j k (rw t at e) in (ap pos same, grind (arith, t, same, nat_tests)))
    (λ t. absurd (none-some k (rw t at e)))
below_some n (negsuc j) k e = absurd (none-some k e)

-- is one
pub below_is : (n : ℕ) (z : ℤ) (k : ℕ) → z ≡ pos k → k < n → below n z ≡ Some k
below_is n z k e low = let t : ltb k n ≡ true = grind (arith, low, nat_tests) in rw (e, t) refl
