-- The first of the greatest elements of a list, by a number that each has.
--   most_by f xs                  the greatest number of an element; 0 of no elements
--   IsFirstMost f xs front x rest   the list is x between these; no element has a greater number, and each before x has
--       a smaller one
--   IsFirstAt f xs place          the same by the place of x
use Rattle.std.specs.Prelude.{◌≡◌, ◌≢◌, ℕ, List, [], ◌∷◌, ◌++◌, Some, max, slice_get, take}
use Rattle.std.specs.List.{All}

-- the greatest number of an element
abbrev pub most_by : {A : Type 0} → (A → ℕ) → List A → ℕ
most_by f [] = 0
most_by f (x ∷ xs) = max (f x) (most_by f xs)

-- x has the greatest number, and it is the first that has
pub record IsFirstMost {A : Type 0} (f : A → ℕ) (xs front : List A) (x : A) (rest : List A) : Type 0 where
  pub is : xs ≡ front ++ x ∷ rest
  pub most : f x ≡ most_by f xs
  pub first : All (λ y. f y ≢ most_by f xs) front

-- the same by the place of x
pub record IsFirstAt {A : Type 0} (f : A → ℕ) (xs : List A) (place : ℕ) : Type 0 where
  pub x : A
  pub at : slice_get xs place ≡ Some x
  pub most : f x ≡ most_by f xs
  pub first : All (λ y. f y ≢ most_by f xs) (take place xs)
