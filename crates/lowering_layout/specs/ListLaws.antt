-- Laws of lists.
use Rattle.std.proofs.Common.{◌≡◌, ◌<◌, ℕ, zero, suc, List, [], ◌∷◌, ◌++◌, map, slice_get, Contains, AllPairs, All, Some, subst, arith}
use Rattle.std.proofs.lemmas.Option.{none-some, same_Some}
use Rattle.std.proofs.lemmas.List.Kept.{AllPairs-cons}
use Rattle.lists.specs.MemberLaws.{no_member, first_or_further, all_members}
use Rattle.lowering_layout.specs.Lists.{EachOf, Apart, Across, InParts}

module _ {A : Type 0} where
  -- ---- each

  pub each_when : (P Q : A → Type 0) (xs : List A) → ((x : A) → P x → Q x) → EachOf P xs → EachOf Q xs
  each_when P Q [] f h = tt
  each_when P Q (x ∷ xs) f h = (f x h.0, each_when P Q xs f h.1)

  pub each_of_all : (P : A → Type 0) (xs : List A) → ((x : A) → P x) → EachOf P xs
  each_of_all P [] f = tt
  each_of_all P (x ∷ xs) f = (f x, each_of_all P xs f)

  pub each_both : (P Q : A → Type 0) (xs : List A) → EachOf P xs → EachOf Q xs → EachOf (λ x. P x × Q x) xs
  each_both P Q [] h i = tt
  each_both P Q (x ∷ xs) h i = ((h.0, i.0), each_both P Q xs h.1 i.1)

  pub each_joined : (P : A → Type 0) (xs ys : List A) → EachOf P xs → EachOf P ys → EachOf P (xs ++ ys)
  each_joined P [] ys h i = i
  each_joined P (x ∷ xs) ys h i = (h.0, each_joined P xs ys h.1 i)

  pub each_parts : (P : A → Type 0) (xs ys : List A) → EachOf P (xs ++ ys) → EachOf P xs × EachOf P ys
  each_parts P [] ys h = (tt, h)
  each_parts P (x ∷ xs) ys h = let rest = each_parts P xs ys h.1 in ((h.0, rest.0), rest.1)

  pub each_member : (P : A → Type 0) (xs : List A) (y : A) → Contains xs y → EachOf P xs → P y
  each_member P [] y c h = no_member y c
  each_member P (x ∷ xs) y c h = first_or_further x xs y c (λ e. subst P e h.0) (λ rest. each_member P xs y rest h.1)

  pub each_all : (P : A → Type 0) (xs : List A) → EachOf P xs → All P xs
  each_all P xs h = all_members P xs (λ x c. each_member P xs x c h)

  pub each_at : (P : A → Type 0) (xs : List A) (i : ℕ) (y : A) → slice_get xs i ≡ Some y → EachOf P xs → P y
  each_at P [] i y at h = absurd (none-some y at)
  each_at P (x ∷ xs) zero y at h = subst P (same_Some x y at) h.0
  each_at P (x ∷ xs) (suc i) y at h = each_at P xs i y at h.1

  -- ---- each two

  pub apart_when : (R S : A → A → Type 0) (xs : List A) → ((x y : A) → R x y → S x y) → Apart R xs → Apart S xs
  apart_when R S [] f h = tt
  apart_when R S (x ∷ xs) f h = (each_when (R x) (S x) xs (f x) h.0, apart_when R S xs f h.1)

  pub apart_joined : (R : A → A → Type 0) (xs ys : List A) → Apart R xs → Apart R ys → Across R xs ys
      → Apart R (xs ++ ys)
  apart_joined R [] ys h i c = i
  apart_joined R (x ∷ xs) ys h i c = (each_joined (R x) xs ys h.0 c.0, apart_joined R xs ys h.1 i c.1)

  pub apart_parts : (R : A → A → Type 0) (xs ys : List A) → Apart R (xs ++ ys) → InParts {A = A} R xs ys
  apart_parts R [] ys h = record { left = tt; right = h; across = tt }
  apart_parts R (x ∷ xs) ys h =
      let rest = apart_parts R xs ys h.1 in
      let first = each_parts (R x) xs ys h.0 in
      record { left = (first.0, rest.left); right = rest.right; across = (first.1, rest.across) }

  pub apart_pairs : (R : A → A → Type 0) (xs : List A) → Apart R xs → AllPairs R xs
  apart_pairs R [] h = λ i j d low within. absurd (omega (arith, within))
  apart_pairs R (x ∷ xs) h = AllPairs-cons R x xs (each_all (R x) xs h.0) (apart_pairs R xs h.1)

  pub apart_at : (R : A → A → Type 0) (xs : List A) (i j : ℕ) (x y : A) → slice_get xs i ≡ Some x
      → slice_get xs j ≡ Some y → i < j → Apart R xs → R x y
  apart_at R [] i j x y at_i at_j low h = absurd (none-some x at_i)
  apart_at R (z ∷ zs) i zero x y at_i at_j low h = absurd (omega (arith, low))
  apart_at R (z ∷ zs) zero (suc j) x y at_i at_j low h = subst (λ w. R w y) (same_Some z x at_i) (each_at (R z) zs j y at_j h.0)
  apart_at R (z ∷ zs) (suc i) (suc j) x y at_i at_j low h = apart_at R zs i j x y at_i at_j (omega (arith, low)) h.1

module _ {A B : Type 0} where
  pub each_image : (P : B → Type 0) (f : A → B) (xs : List A) → EachOf (λ x. P (f x)) xs → EachOf P (map f xs)
  each_image P f [] h = tt
  each_image P f (x ∷ xs) h = (h.0, each_image P f xs h.1)
