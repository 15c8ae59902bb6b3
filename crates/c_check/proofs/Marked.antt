-- Labels in a set of constants, of which the newest is the last.
use Rattle.std.proofs.Common.{◌≡◌, ◌==◌, ℕ, Bool, List, [], ◌∷◌, ◌++◌, reverse, refl, ap, ◌∙◌, arith, false, if◌then◌else◌}
use Rattle.std.specs.List.{list_any}
use Rattle.std.proofs.lemmas.Bool.Decides.{nat_tests}
use Rattle.std.proofs.lemmas.List.{reverse-append}
use Rattle.std.proofs.lemmas.List.Sorted.{IsPermutation-reverse, list_any-IsPermutation}
use Rattle.c_rules.specs.Statements.{is_label}

same_either_way : (n k : ℕ) → (n == k) ≡ (k == n)
same_either_way n k = grind (arith, nat_tests)

any_same : (xs : List ℕ) (n : ℕ) → list_any (λ k. n == k) xs ≡ list_any (λ k. k == n) xs
any_same [] n = refl
any_same (x ∷ xs) n = rw (same_either_way n x, any_same xs n) refl

pub turned : (xs : List ℕ) (n : ℕ) → list_any (λ k. n == k) xs ≡ is_label (reverse xs) n
turned xs n = any_same xs n ∙ list_any-IsPermutation (λ k. k == n) xs (reverse xs) (IsPermutation-reverse xs)

-- a constant that is new goes last
pub one_more : (xs after : List ℕ) (n : ℕ) → is_label (reverse xs) n ≡ false
    → after ≡ (if list_any (λ k. n == k) xs then xs else xs ++ n ∷ []) → reverse after ≡ n ∷ reverse xs
one_more xs after n new is =
    let none : list_any (λ k. n == k) xs ≡ false = turned xs n ∙ new in
    ap (λ (ys : List ℕ). reverse ys) (is ∙ ap (λ (b : Bool). if b then xs else xs ++ n ∷ []) none) ∙ reverse-append xs (n ∷ [])
