-- On the way to the laws of digit.
--   all_digits   all of them are the longest list of digits
use Rattle.std.proofs.Common.{◌≡◌, ℕ, true, false, List, [], ◌∷◌, refl, ap}
use Rattle.std.specs.List.{list_all}
use Rattle.std.specs.Char.{is_ascii_digit}
use Rattle.lists.specs.TestLaws.{by_test}
use Rattle.flow_base.specs.Digits.{prefix_digits}

-- all of them are the longest list of digits
pub all_digits : (ds : List ℕ) → list_all is_ascii_digit ds ≡ true → prefix_digits ds ≡ ds
all_digits [] h = refl
all_digits (d ∷ ds) h = by_test (is_ascii_digit d)
    (λ t. let more : list_all is_ascii_digit ds ≡ true = rw t at h in rw t (ap (λ (xs : List ℕ). d ∷ xs) (all_digits ds more)))
    (λ t. absurd (let k : false ≡ true = rw t at h in cc))
