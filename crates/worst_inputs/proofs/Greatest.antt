-- The first of the greatest elements of a list, one element after the other.
use Rattle.std.proofs.Common.{◌≡◌, ◌≢◌, ◌<◌, ◌≤◌, ◌+◌, ℕ, List, [], ◌∷◌, ◌++◌, length, get_or, take, map, max, Some, All, Contains, option_map, inl, inr, refl, sym, ap, subst, ◌∙◌, arith}
use Rattle.std.proofs.lemmas.Bool.{cases_lt}
use Rattle.std.proofs.lemmas.List.{take_more, take_all, take-map}
use Rattle.std.proofs.lemmas.List.Elements.{All-more, All-contains, All-map}
use Rattle.std.proofs.lemmas.Option.{slice_get-get_or, slice_get-map}
use Rattle.lists.specs.MemberLaws.{first_member, further_member}
use Rattle.worst_inputs.specs.Most.{most_by, IsFirstAt}

module _ {A : Type 0} (f : A → ℕ) where
  most_by-push : (xs : List A) (x : A) → most_by f (xs ++ x ∷ []) ≡ max (f x) (most_by f xs)
  most_by-push [] x = refl
  most_by-push (y ∷ xs) x = let e = most_by-push xs x in rw e (omega arith)

  -- one element more
  pub most_more : (xs : List A) (i : ℕ) (d : A) (most : ℕ) → i < length xs → most ≡ most_by f (take i xs)
      → max (f (get_or xs i d)) most ≡ most_by f (take (i + 1) xs)
  most_more xs i d most low is = rw (take_more xs i d low) (ap (max (f (get_or xs i d))) is ∙ sym (most_by-push (take i xs) (get_or xs i d)))

  pub most_all : (xs : List A) (i : ℕ) (most : ℕ) → length xs ≤ i → most ≡ most_by f (take i xs) → most ≡ most_by f xs
  most_all xs i most over is = is ∙ ap (most_by f) (take_all i xs over)

  -- a list with an element has one of greatest number
  pub reached : (x : A) (xs : List A) → (y : A) × Contains (x ∷ xs) y × (f y ≡ most_by f (x ∷ xs))
  reached x [] = (x, first_member x [], let e : max (f x) 0 ≡ f x = omega arith in sym e)
  reached x (z ∷ xs) = let more = reached z xs in elim (cases_lt (f x) (most_by f (z ∷ xs))) [
    | inl low ↦ (more.0, further_member x (z ∷ xs) more.0 more.1, let e = more.2 in let m : max (f x) (most_by f (z ∷ xs)) ≡ most_by f (z ∷ xs) = omega arith in e ∙ sym m)
    | inr high ↦ (x, first_member x (z ∷ xs), let m : max (f x) (most_by f (z ∷ xs)) ≡ f x = omega arith in sym m)
  ]

  -- so it is not true that none has it
  pub never_none : (xs : List A) (place most : ℕ) → 0 < length xs → length xs ≤ place → most ≡ most_by f xs
      → All (λ y. f y ≢ most) (take place xs) → ⊥
  never_none [] place most some over is none = absurd (omega arith)
  never_none (x ∷ xs) place most some over is none =
      let there = reached x xs in
      let all : All (λ y. f y ≢ most) (x ∷ xs) = subst (λ (ys : List A). All (λ y. f y ≢ most) ys) (take_all place (x ∷ xs) over) none in
      All-contains (λ y. f y ≢ most) (x ∷ xs) there.0 all there.1 (there.2 ∙ sym is)

  pub first_here : (xs : List A) (place most : ℕ) (x : A) → place < length xs → x ≡ get_or xs place x
      → most ≡ most_by f xs → f x ≡ most → All (λ y. f y ≢ most) (take place xs) → IsFirstAt f xs place
  first_here xs place most x low at is here none = record {
    x = x;
    at = slice_get-get_or xs place x low ∙ ap Some (sym at);
    most = here ∙ is;
    first = subst (λ (m : ℕ). All (λ y. f y ≢ m) (take place xs)) is none;
  }

  -- the same of an element that was read with a default
  pub first_read : (xs : List A) (place most : ℕ) (d : A) → place < length xs → most ≡ most_by f xs
      → f (get_or xs place d) ≡ most → All (λ y. f y ≢ most) (take place xs) → IsFirstAt f xs place
  first_read xs place most d low is here none = record {
    x = get_or xs place d;
    at = slice_get-get_or xs place d low;
    most = here ∙ is;
    first = subst (λ (m : ℕ). All (λ y. f y ≢ m) (take place xs)) is none;
  }

  pub none_more : (xs : List A) (place most : ℕ) (d : A) → place < length xs → All (λ y. f y ≢ most) (take place xs)
      → f (get_or xs place d) ≢ most → All (λ y. f y ≢ most) (take (place + 1) xs)
  none_more xs place most d low none here = All-more (λ y. f y ≢ most) xs place d low none here

-- of images
pub most_by-map : {A B : Type 0} (f : B → ℕ) (g : A → B) (xs : List A)
    → most_by f (map g xs) ≡ most_by (λ x. f (g x)) xs
most_by-map f g [] = refl
most_by-map f g (x ∷ xs) = ap (max (f (g x))) (most_by-map f g xs)

pub first_of_map : {A B : Type 0} (f : B → ℕ) (g : A → B) (xs : List A) (place : ℕ) → IsFirstAt (λ x. f (g x)) xs place
    → IsFirstAt f (map g xs) place
first_of_map f g xs place first = record {
  x = g first.x;
  at = slice_get-map g xs place ∙ ap (option_map g) first.at;
  most = first.most ∙ sym (most_by-map f g xs);
  first = rw (take-map g place xs, most_by-map f g xs) (All-map (λ y. f y ≢ most_by (λ x. f (g x)) xs) g (take place xs) first.first);
}
