-- Elements of lists, and lists without repeats.
use Rattle.std.proofs.Common.{◌≡◌, ◌≢◌, ◌<◌, ℕ, zero, suc, List, [], ◌∷◌, ◌++◌, ◌⊎◌, inl, inr, Contains, get_or, length, length-append, refl, ap, sym, ◌∙◌, subst, arith}
use Rattle.std.proofs.lemmas.Bool.{cases_lt}
use Rattle.std.proofs.lemmas.List.{get_or_append_left}
use Rattle.std.proofs.lemmas.List.Elements.{Contains-get_or}
use Rattle.std.proofs.lemmas.List.Quantifiers.{all_pairs_push}
use Rattle.lists.specs.MemberLaws.{no_member, first_or_further}
use Rattle.graph_walks.specs.Walks.{IsDistinct}

-- two numbers are the same or not
pub same_or_not : (m n : ℕ) → (m ≡ n) ⊎ (m ≢ n)
same_or_not m n = elim (cases_lt m n) [ inl low ↦ inr (λ e. omega arith) | inr high ↦ elim (cases_lt n m) [ inl low ↦ inr (λ e. omega arith) | inr same ↦ inl (omega arith) ] ]

-- an element of a list is its first or one of the others
pub contains_cases : {X : Type 0} (x : X) (xs : List X) (y : X) → Contains (x ∷ xs) y → (y ≡ x) ⊎ Contains xs y
contains_cases x xs y there = first_or_further x xs y there (λ e. inl (sym e)) (λ more. inr more)

-- a list that is not empty has a last element
pub last_cases : (x : ℕ) (xs : List ℕ) → (front : List ℕ) × (last : ℕ) × (x ∷ xs ≡ front ++ last ∷ [])
last_cases x [] = ([], x, refl)
last_cases x (y ∷ xs) = let r = last_cases y xs in (x ∷ r.0, r.1, ap (λ (ys : List ℕ). x ∷ ys) r.2)

-- an element cuts a list in two
pub cut_at : (xs : List ℕ) (x : ℕ) → Contains xs x → (front rest : List ℕ) × (xs ≡ front ++ x ∷ rest)
cut_at [] x h = no_member x h
cut_at (y ∷ xs) x h = elim (contains_cases y xs x h) [
  | inl e ↦ ([], xs, ap (λ (n : ℕ). n ∷ xs) (sym e))
  | inr more ↦ let r = cut_at xs x more in (y ∷ r.0, r.1, ap (λ (ys : List ℕ). y ∷ ys) r.2)
]

-- what stands at a place does not depend on a default
pub same_default : {X : Type 0} (xs : List X) (k : ℕ) (d e : X) → k < length xs → get_or xs k d ≡ get_or xs k e
same_default [] k d e low = absurd (omega arith)
same_default (x ∷ xs) zero d e low = refl
same_default (x ∷ xs) (suc k) d e low = same_default xs k d e (omega arith)

-- nor has one with a further element that is not among it
pub distinct_push : (xs : List ℕ) (y : ℕ) → IsDistinct xs → (Contains xs y → ⊥) → IsDistinct (xs ++ y ∷ [])
distinct_push xs y once other =
    all_pairs_push (λ u v. u ≢ v) xs y once (λ k d inside e. other (subst (λ (n : ℕ). Contains xs n) e (Contains-get_or xs k d inside)))

-- the front of a list without repeats has none
pub distinct_front : (xs ys : List ℕ) → IsDistinct (xs ++ ys) → IsDistinct xs
distinct_front xs ys once i j d before inside =
    let later = length-append xs ys in
    let first = get_or_append_left xs ys d i (omega arith) in
    let second = get_or_append_left xs ys d j inside in
    λ e. once i j d before (omega arith) (first ∙ e ∙ sym second)
