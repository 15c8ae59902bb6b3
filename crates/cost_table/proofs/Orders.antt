-- Orders of numbers.
--   below_or_not   a number is below another or not
use Rattle.std.proofs.Common.{◌<◌, ◌≤◌, ◌⊎◌, inl, inr, ℕ, ltb, arith}
use Rattle.std.proofs.lemmas.Bool.Decides.{nat_tests}
use Rattle.lists.specs.TestLaws.{by_test}

-- a number is below another or not
pub below_or_not : (x y : ℕ) → (x < y) ⊎ (y ≤ x)
below_or_not x y = by_test (ltb x y) (λ e. inl (grind (arith, nat_tests))) (λ e. inr (grind (arith, nat_tests)))
