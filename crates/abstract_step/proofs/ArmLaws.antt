-- Lists changed member by member.
--   first_mapped f n xs   the list with its first n members changed
--   next_mapped           one member more
--   not_yet               the next member is as it was
--   all_mapped            all members
--   whole                 a list that was written back whole
use Rattle.std.specs.Prelude.{slice_set, get_or, take, drop}
use Rattle.std.proofs.Common.{◌≡◌, ◌<◌, ◌+◌, ◌++◌, ℕ, zero, suc, List, [], ◌∷◌, map, length, refl, ap, ◌∙◌, arith}

-- the list with its first n members changed
abbrev pub first_mapped : {A : Type 0} → (A → A) → ℕ → List A → List A
first_mapped f zero xs = xs
first_mapped f (suc n) [] = []
first_mapped f (suc n) (x ∷ xs) = f x ∷ first_mapped f n xs

-- the next member is as it was
pub not_yet : (A : Type 0) (f : A → A) (n : ℕ) (xs : List A) (d : A) → n < length xs
    → get_or (first_mapped f n xs) n d ≡ get_or xs n d
not_yet A f zero xs d low = refl
not_yet A f (suc n) [] d low = absurd (omega (arith, low))
not_yet A f (suc n) (x ∷ xs) d low = not_yet A f n xs d (omega (arith, low))

set_next : (A : Type 0) (f : A → A) (n : ℕ) (xs : List A) (d : A) → n < length xs
    → slice_set (first_mapped f n xs) n (f (get_or xs n d)) ≡ first_mapped f (suc n) xs
set_next A f n [] d low = absurd (omega (arith, low))
set_next A f zero (x ∷ xs) d low = refl
set_next A f (suc n) (x ∷ xs) d low = ap (λ (ys : List A). f x ∷ ys) (set_next A f n xs d (omega (arith, low)))

-- one member more
pub next_mapped : (A : Type 0) (f : A → A) (n : ℕ) (old now : List A) (d after : A) → n < length old
    → now ≡ first_mapped f n old → after ≡ f (get_or now n d) → slice_set now n after ≡ first_mapped f (n + 1) old
next_mapped A f n old now d after low so_far is =
    let member : after ≡ f (get_or old n d) = is ∙ ap (λ (xs : List A). f (get_or xs n d)) so_far ∙ ap f (not_yet A f n old d low) in
    let e : suc n ≡ n + 1 = omega arith in
    ap (λ (xs : List A). slice_set xs n after) so_far ∙ ap (slice_set (first_mapped f n old) n) member ∙ set_next A f n old d low ∙ ap (λ (k : ℕ). first_mapped f k old) e

-- all members
pub all_mapped : (A : Type 0) (f : A → A) (xs : List A) → first_mapped f (length xs) xs ≡ map f xs
all_mapped A f [] = refl
all_mapped A f (x ∷ xs) = ap (λ (ys : List A). f x ∷ ys) (all_mapped A f xs)

take_first : (A : Type 0) (xs ys : List A) → take (length xs) (xs ++ ys) ≡ xs
take_first A [] ys = refl
take_first A (x ∷ xs) ys = ap (λ (zs : List A). x ∷ zs) (take_first A xs ys)

-- a list that was written back whole
pub whole : (A : Type 0) (new old : List A) (n : ℕ) → n ≡ length new → take n (new ++ drop (length new) old) ≡ new
whole A new old n all = ap (λ (k : ℕ). take k (new ++ drop (length new) old)) all ∙ take_first A new (drop (length new) old)
