-- Lists side by side, of which each element of the one goes with that of the other.
--   zip_append, zip_take, zip_drop, zip_set, zip_remove   so do lists that are made of such lists
--   zip_at        and each place of the one has its own in the other
use Rattle.std.proofs.Common.{◌≡◌, ℕ, zero, suc, List, [], ◌∷◌, ◌++◌, take, drop, slice_get, slice_set, Some, refl, subst}
use Rattle.std.specs.List.{AllZip, remove}
use Rattle.std.proofs.lemmas.Option.{same_Some, none-some}

module _ {A B : Type 0} (R : A → B → Type 0) where
  pub zip_append : (xs more : List A) (ys others : List B) → AllZip R xs ys → AllZip R more others
      → AllZip R (xs ++ more) (ys ++ others)
  zip_append [] more [] others h k = k
  zip_append [] more (y ∷ ys) others h k = absurd h
  zip_append (x ∷ xs) more [] others h k = absurd h
  zip_append (x ∷ xs) more (y ∷ ys) others h k = (h.0, zip_append xs more ys others h.1 k)

  pub zip_take : (n : ℕ) (xs : List A) (ys : List B) → AllZip R xs ys → AllZip R (take n xs) (take n ys)
  zip_take zero [] [] h = tt
  zip_take zero [] (y ∷ ys) h = absurd h
  zip_take zero (x ∷ xs) [] h = absurd h
  zip_take zero (x ∷ xs) (y ∷ ys) h = tt
  zip_take (suc n) [] [] h = tt
  zip_take (suc n) [] (y ∷ ys) h = absurd h
  zip_take (suc n) (x ∷ xs) [] h = absurd h
  zip_take (suc n) (x ∷ xs) (y ∷ ys) h = (h.0, zip_take n xs ys h.1)

  pub zip_drop : (n : ℕ) (xs : List A) (ys : List B) → AllZip R xs ys → AllZip R (drop n xs) (drop n ys)
  zip_drop zero [] [] h = tt
  zip_drop zero [] (y ∷ ys) h = absurd h
  zip_drop zero (x ∷ xs) [] h = absurd h
  zip_drop zero (x ∷ xs) (y ∷ ys) h = h
  zip_drop (suc n) [] [] h = tt
  zip_drop (suc n) [] (y ∷ ys) h = absurd h
  zip_drop (suc n) (x ∷ xs) [] h = absurd h
  zip_drop (suc n) (x ∷ xs) (y ∷ ys) h = zip_drop n xs ys h.1

  pub zip_set : (xs : List A) (ys : List B) (i : ℕ) (x : A) (y : B) → AllZip R xs ys → R x y
      → AllZip R (slice_set xs i x) (slice_set ys i y)
  zip_set [] [] i x y h r = tt
  zip_set [] (b ∷ ys) i x y h r = absurd h
  zip_set (a ∷ xs) [] i x y h r = absurd h
  zip_set (a ∷ xs) (b ∷ ys) zero x y h r = (r, h.1)
  zip_set (a ∷ xs) (b ∷ ys) (suc i) x y h r = (h.0, zip_set xs ys i x y h.1 r)

  pub zip_remove : (xs : List A) (ys : List B) (i : ℕ) → AllZip R xs ys → AllZip R (remove xs i) (remove ys i)
  zip_remove xs ys i h = zip_append (take i xs) (drop (suc i) xs) (take i ys) (drop (suc i) ys) (zip_take i xs ys h) (zip_drop (suc i) xs ys h)

  -- the element at a place, and the one that goes with it
  pub zip_at : (xs : List A) (ys : List B) (i : ℕ) (x : A) → AllZip R xs ys → slice_get xs i ≡ Some x
      → (y : B) × (slice_get ys i ≡ Some y) × R x y
  zip_at [] [] i x h at = absurd (none-some x at)
  zip_at [] (b ∷ ys) i x h at = absurd h
  zip_at (a ∷ xs) [] i x h at = absurd h
  zip_at (a ∷ xs) (b ∷ ys) zero x h at = (b, refl, subst (λ (z : A). R z b) (same_Some a x at) h.0)
  zip_at (a ∷ xs) (b ∷ ys) (suc i) x h at = zip_at xs ys i x h.1 at
