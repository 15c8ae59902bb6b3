-- Laws of lists.
use Rattle.std.proofs.Common.{List, [], ◌∷◌, map}
use Rattle.lowering_layout.specs.Lists.{EachOf, Apart}
use Rattle.lowering_layout.specs.ListLaws.{each_image}

module _ {A B : Type 0} where
  pub each_of_image : (P : B → Type 0) (f : A → B) (xs : List A) → EachOf P (map f xs) → EachOf (λ x. P (f x)) xs
  each_of_image P f [] h = tt
  each_of_image P f (x ∷ xs) h = (h.0, each_of_image P f xs h.1)

  pub apart_image : (R : B → B → Type 0) (f : A → B) (xs : List A) → Apart (λ x y. R (f x) (f y)) xs
      → Apart R (map f xs)
  apart_image R f [] h = tt
  apart_image R f (x ∷ xs) h = (each_image {A = A} {B = B} (R (f x)) f xs h.0, apart_image R f xs h.1)
