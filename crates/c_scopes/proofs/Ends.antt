-- The last member of a list, and the list turned round.
use Rattle.std.proofs.Common.{◌≡◌, ◌-◌, ◌<◌, ℕ, List, [], ◌∷◌, ◌++◌, length, reverse, take, None, Some, refl, ap, sym, ◌∙◌, subst, suc, zero, arith}
use Rattle.std.specs.List.{slice_get}
use Rattle.std.proofs.lemmas.List.{length-append, reverse-reverse, reverse-append}
use Rattle.std.proofs.Math.Seq.{take-append_seam}

pub turned_more : {A : Type 0} (xs : List A) (x : A) → reverse (xs ++ x ∷ []) ≡ x ∷ reverse xs
turned_more xs x = reverse-append xs (x ∷ [])

pub turned_cons : {A : Type 0} (x : A) (xs : List A) → reverse (x ∷ xs) ≡ reverse xs ++ x ∷ []
turned_cons x xs = reverse-append (x ∷ []) xs

-- the member at the seam, and those before it
pub get_seam : {A : Type 0} (xs : List A) (x : A) → slice_get (xs ++ x ∷ []) (length xs) ≡ Some x
get_seam [] x = refl
get_seam (y ∷ ys) x = get_seam ys x

pub get_before : {A : Type 0} (xs ys : List A) (n : ℕ) → n < length xs → slice_get (xs ++ ys) n ≡ slice_get xs n
get_before [] ys n low = absurd (nothing n low)
  where
    nothing : (n : ℕ) → n < 0 → ⊥
    nothing n low = omega arith
get_before (x ∷ xs) ys zero low = refl
get_before (x ∷ xs) ys (suc n) low = get_before xs ys n (omega arith)

none_some : {A : Type 0} {x : A} → None ≡ Some x → ⊥
none_some found = cc

-- a list with its last member
from_end : {A : Type 0} (x : A) (ys : List A) → slice_get (reverse ys) (length (reverse ys) - 1) ≡ Some x
    → reverse ys ≡ take (length (reverse ys) - 1) (reverse ys) ++ x ∷ []
from_end {A} x [] found = absurd (none_some found)
from_end {A} x (y ∷ ys) found =
    let turned = turned_cons y ys in
    let count : length (reverse ys ++ y ∷ []) - 1 ≡ length (reverse ys) = rw (length-append (reverse ys) (y ∷ [])) (omega arith) in
    let same : Some y ≡ Some x = sym (get_seam (reverse ys) y) ∙ sym (ap (λ (k : ℕ). slice_get (reverse ys ++ y ∷ []) k) count) ∙ sym (ap (λ (zs : List A). slice_get zs (length zs - 1)) turned) ∙ found in
    let is : y ≡ x = cc in
    rw (turned, count, take-append_seam (reverse ys) (y ∷ [])) (ap (λ (z : A). reverse ys ++ z ∷ []) is)

pub with_last : {A : Type 0} (xs : List A) (x : A) → slice_get xs (length xs - 1) ≡ Some x
    → xs ≡ take (length xs - 1) xs ++ x ∷ []
with_last {A} xs x is =
    subst (λ (ys : List A). slice_get ys (length ys - 1) ≡ Some x → ys ≡ take (length ys - 1) ys ++ x ∷ []) (reverse-reverse xs) (from_end x (reverse xs)) is
