-- Members of lists, by std's `Contains`, and what holds of each, by std's `All`.
--   placed, contained      a member stands at its place, and what stands at a place is a member
--   first_member, further_member   the members of a list that has one element more
--   first_or_further       a member is the first element or one of the others
--   all_members            it holds of all if of each member
use Rattle.std.proofs.Common.{◌≡◌, ◌<◌, ℕ, zero, suc, List, [], ◌∷◌, get_or, slice_get, All, Contains, Some, refl, ap, ◌∙◌, arith}
use Rattle.std.proofs.lemmas.Option.{slice_get_within, slice_get-get_or, get_or_from_slice_get}
use Rattle.std.proofs.lemmas.List.Elements.{Contains-get_or}

-- what stands at a place is a member
pub contained : {A : Type 0} (xs : List A) (i : ℕ) (x : A) → slice_get xs i ≡ Some x → Contains xs x
contained xs i x at = (i, slice_get_within xs i x at, get_or_from_slice_get xs i x x at)

-- a member stands at its place
pub placed : {A : Type 0} (xs : List A) (x : A) (c : Contains xs x) → slice_get xs c.0 ≡ Some x
placed xs x c = slice_get-get_or xs c.0 x c.1 ∙ ap Some c.2

-- the empty list has none
pub no_member : {A B : Type 0} (x : A) → Contains [] x → B
no_member x c = absurd (let low : c.0 < 0 = c.1 in omega arith)

-- the first element is a member
pub first_member : {A : Type 0} (x : A) (xs : List A) → Contains (x ∷ xs) x
first_member x xs = (0, omega arith, refl)

-- so is each of the others
pub further_member : {A : Type 0} (x : A) (xs : List A) (y : A) → Contains xs y → Contains (x ∷ xs) y
further_member x xs y c = contained (x ∷ xs) (suc c.0) y (placed xs y c)

-- a member is the first element or one of the others
pub first_or_further : {A B : Type 0} (x : A) (xs : List A) (y : A) → Contains (x ∷ xs) y → (x ≡ y → B)
    → (Contains xs y → B) → B
first_or_further x xs y (zero, low, is) first others = first is
first_or_further x xs y (suc k, low, is) first others = others (k, omega arith, is)

-- it holds of all if of each member
pub all_members : {A : Type 0} (P : A → Type 0) (xs : List A) → ((x : A) → Contains xs x → P x) → All P xs
all_members P xs each = λ k d low. each (get_or xs k d) (Contains-get_or xs k d low)
