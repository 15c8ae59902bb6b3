-- On the way to the laws of list.
--   last_is        the last element of a list stands after the others
--   last_none      a list without a last element is empty
--   distinct_one   a list of one has no repeats
use Rattle.std.proofs.Common.{◌≡◌, ℕ, List, [], ◌∷◌, ◌++◌, Some, None, ◌+◌, ◌-◌, get_or, slice_get, length, length-append, refl, ap, sym, ◌∙◌, arith}
use Rattle.std.proofs.Math.Seq.{get_or-append_seam}
use Rattle.std.proofs.lemmas.Option.{get_or_from_slice_get, slice_get-get_or}
use Rattle.graph_walks.specs.Walks.{IsDistinct}
use Rattle.graph_walks.specs.ListLaws.{last_cases}

-- the last element of a list stands after the others
pub last_is : (xs : List ℕ) (x : ℕ) → slice_get xs (length xs - 1) ≡ Some x → (front : List ℕ) × (xs ≡ front ++ x ∷ [])
last_is [] x e = absurd (cc)
last_is (y ∷ xs) x e =
    let r = last_cases y xs in
    let long : length (y ∷ xs) ≡ length r.0 + 1 = ap length r.2 ∙ length-append r.0 (r.1 ∷ []) in
    let place : length (y ∷ xs) - 1 ≡ length r.0 = omega arith in
    let there : get_or (y ∷ xs) (length r.0) x ≡ x = get_or_from_slice_get (y ∷ xs) (length r.0) x x (ap (λ (k : ℕ). slice_get (y ∷ xs) k) (sym place) ∙ e) in
    let last : get_or (r.0 ++ r.1 ∷ []) (length r.0) x ≡ r.1 = get_or-append_seam r.0 r.1 [] x in
    let same : r.1 ≡ x = sym last ∙ ap (λ (ys : List ℕ). get_or ys (length r.0) x) (sym r.2) ∙ there in
    (r.0, r.2 ∙ ap (λ (n : ℕ). r.0 ++ n ∷ []) same)

-- a list without a last element is empty
pub last_none : (xs : List ℕ) → slice_get xs (length xs - 1) ≡ None → xs ≡ []
last_none [] e = refl
last_none (y ∷ xs) e = let there = slice_get-get_or (y ∷ xs) (length (y ∷ xs) - 1) y (omega arith) in absurd (cc)

-- a list of one has no repeats
pub distinct_one : (x : ℕ) → IsDistinct (x ∷ [])
distinct_one x i j d before inside = absurd (omega arith)
