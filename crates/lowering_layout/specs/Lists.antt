-- What holds of each member of a list, and of each two.
--   EachOf P xs       P holds of each member
--   Apart R xs        R holds of each member and each one after it
--   Across R xs ys    R holds of each member of the one list and each of the other
-- Laws: lists in a row, images, members, and std's `AllPairs`.
use Rattle.std.proofs.Common.{List, [], ◌∷◌}
use Rattle.std.specs.Prelude.{⊤}

abbrev pub EachOf : {A : Type 0} → (A → Type 0) → List A → Type 0
EachOf P [] = ⊤
EachOf P (x ∷ xs) = P x × EachOf P xs

abbrev pub Apart : {A : Type 0} → (A → A → Type 0) → List A → Type 0
Apart R [] = ⊤
Apart R (x ∷ xs) = EachOf (R x) xs × Apart R xs

abbrev pub Across : {A : Type 0} → (A → A → Type 0) → List A → List A → Type 0
Across R xs ys = EachOf (λ x. EachOf (R x) ys) xs

module _ {A : Type 0} where
  -- ---- each two

  pub record InParts (R : A → A → Type 0) (xs ys : List A) : Type 0 where
    pub left : Apart R xs
    pub right : Apart R ys
    pub across : Across R xs ys
