-- Elements of lists from which a place is taken, or in which two are joined.
--   elsewhere, in_room, from_room   where others stand in the room of one element
--   beside_set, from_set, later_as_before, still_set, now_set   after a write
--   stays_written, from_remove   where a later element is taken out after a write
use Rattle.std.proofs.Common.{◌≡◌, ℕ, zero, suc, ◌<◌, List, [], ◌∷◌, ◌++◌, length, take, drop, slice_get, slice_set, Some, ◌⊎◌, inl, inr, refl, arith, Contains, sym, ◌∙◌, subst}
use Rattle.std.specs.List.{remove}
use Rattle.std.proofs.lemmas.Option.{same_Some, none-some}
use Rattle.std.proofs.lemmas.List.Elements.{Contains-append_left, Contains-append_right, Contains-append_cases}
use Rattle.lists.specs.MemberLaws.{no_member, first_member, further_member}
use Rattle.graph_walks.specs.ListLaws.{contains_cases}

-- the first element, by an equation
here : {X : Type 0} (x y : X) (xs : List X) → y ≡ x → Contains (y ∷ xs) x
here x y xs same = subst (Contains (y ∷ xs)) same (first_member y xs)

cases : {X : Type 0} (x y : X) (xs : List X) → Contains (y ∷ xs) x → (y ≡ x) ⊎ Contains xs x
cases x y xs has = elim (contains_cases y xs x has) [ inl e ↦ inl (sym e) | inr more ↦ inr more ]

-- an element is the one at i, or stays when that one makes room for others
pub elsewhere : {X : Type 0} (xs mid : List X) (i : ℕ) (x y : X) → slice_get xs i ≡ Some y → Contains xs x
    → (y ≡ x) ⊎ Contains (take i xs ++ (mid ++ drop (suc i) xs)) x
elsewhere [] mid i x y at has = no_member x has
elsewhere (z ∷ xs) mid zero x y at has = elim (cases x z xs has) [ inl same ↦ inl (sym (same_Some z y at) ∙ same) | inr in_rest ↦ inr (Contains-append_right mid xs x in_rest) ]
elsewhere (z ∷ xs) mid (suc i) x y at has = elim (cases x z xs has) [ inl same ↦ inr (here x z _ same) | inr in_rest ↦ elim (elsewhere xs mid i x y at in_rest) [ inl found ↦ inl found | inr kept ↦ inr (further_member z _ x kept) ] ]

-- what makes room is there
pub in_room : {X : Type 0} (xs mid : List X) (i : ℕ) (x : X) → Contains mid x
    → Contains (take i xs ++ (mid ++ drop (suc i) xs)) x
in_room xs mid i x has = Contains-append_right (take i xs) (mid ++ drop (suc i) xs) x (Contains-append_left mid (drop (suc i) xs) x has)

pub from_take : {X : Type 0} (xs : List X) (i : ℕ) (x : X) → Contains (take i xs) x → Contains xs x
from_take [] zero x has = has
from_take [] (suc i) x has = has
from_take (y ∷ xs) zero x has = no_member x has
from_take (y ∷ xs) (suc i) x has = elim (cases x y (take i xs) has) [ inl same ↦ here x y xs same | inr rest ↦ further_member y xs x (from_take xs i x rest) ]

pub from_drop : {X : Type 0} (xs : List X) (i : ℕ) (x : X) → Contains (drop i xs) x → Contains xs x
from_drop [] zero x has = has
from_drop [] (suc i) x has = has
from_drop (y ∷ xs) zero x has = has
from_drop (y ∷ xs) (suc i) x has = further_member y xs x (from_drop xs i x has)

-- an element was there, or is one of those that room was made for
pub from_room : {X : Type 0} (xs mid : List X) (i : ℕ) (x : X) → Contains (take i xs ++ (mid ++ drop (suc i) xs)) x
    → Contains xs x ⊎ Contains mid x
from_room xs mid i x has =
    elim (Contains-append_cases (take i xs) (mid ++ drop (suc i) xs) x has) [
      | inl front ↦ inl (from_take xs i x front)
      | inr back ↦ elim (Contains-append_cases mid (drop (suc i) xs) x back) [ inl made ↦ inr made | inr rest ↦ inl (from_drop xs (suc i) x rest) ]
    ]

-- an element is the one at i, or stays when that one is written over
pub beside_set : {X : Type 0} (xs : List X) (i : ℕ) (x y v : X) → slice_get xs i ≡ Some y → Contains xs x
    → (y ≡ x) ⊎ Contains (slice_set xs i v) x
beside_set [] i x y v at has = no_member x has
beside_set (z ∷ xs) zero x y v at has = elim (cases x z xs has) [ inl same ↦ inl (sym (same_Some z y at) ∙ same) | inr in_rest ↦ inr (further_member v xs x in_rest) ]
beside_set (z ∷ xs) (suc i) x y v at has = elim (cases x z xs has) [ inl same ↦ inr (here x z _ same) | inr in_rest ↦ elim (beside_set xs i x y v at in_rest) [ inl found ↦ inl found | inr kept ↦ inr (further_member z _ x kept) ] ]

pub from_set : {X : Type 0} (xs : List X) (i : ℕ) (x v : X) → Contains (slice_set xs i v) x → Contains xs x ⊎ (v ≡ x)
from_set [] zero x v has = inl has
from_set [] (suc i) x v has = inl has
from_set (z ∷ xs) zero x v has = elim (cases x v xs has) [ inl same ↦ inr same | inr rest ↦ inl (further_member z xs x rest) ]
from_set (z ∷ xs) (suc i) x v has = elim (cases x z _ has) [ inl same ↦ inl (here x z xs same) | inr rest ↦ elim (from_set xs i x v rest) [ inl old ↦ inl (further_member z xs x old) | inr new ↦ inr new ] ]

-- after a write at i, the element at a later j is as before
pub later_as_before : {X : Type 0} (xs : List X) (i j : ℕ) (v y : X) → i < j → slice_get xs j ≡ Some y
    → slice_get (slice_set xs i v) j ≡ Some y
later_as_before [] zero j v y below at = at
later_as_before [] (suc i) j v y below at = at
later_as_before (z ∷ xs) zero zero v y below at = absurd (omega arith)
later_as_before (z ∷ xs) zero (suc j) v y below at = at
later_as_before (z ∷ xs) (suc i) zero v y below at = absurd (omega arith)
later_as_before (z ∷ xs) (suc i) (suc j) v y below at = later_as_before xs i j v y (omega arith) at

-- what is written at i stays when a later element is taken out
pub stays_written : {X : Type 0} (xs : List X) (i j : ℕ) (v y : X) → i < j → slice_get xs i ≡ Some y
    → Contains (remove (slice_set xs i v) j) v
stays_written [] i j v y below at = absurd (none-some y at)
stays_written (z ∷ xs) zero zero v y below at = absurd (omega arith)
stays_written (z ∷ xs) zero (suc j) v y below at = here v v _ refl
stays_written (z ∷ xs) (suc i) zero v y below at = absurd (omega arith)
stays_written (z ∷ xs) (suc i) (suc j) v y below at = further_member z _ v (stays_written xs i j v y (omega arith) at)

pub from_remove : {X : Type 0} (xs : List X) (j : ℕ) (x : X) → Contains (remove xs j) x → Contains xs x
from_remove xs j x has = elim (Contains-append_cases (take j xs) (drop (suc j) xs) x has) [ inl front ↦ from_take xs j x front | inr back ↦ from_drop xs (suc j) x back ]

-- a flag that is set stays set when a flag is set
pub still_set : {X : Type 0} (xs : List X) (i j : ℕ) (v : X) → slice_get xs j ≡ Some v
    → slice_get (slice_set xs i v) j ≡ Some v
still_set [] zero j v at = at
still_set [] (suc i) j v at = at
still_set (z ∷ xs) zero zero v at = refl
still_set (z ∷ xs) zero (suc j) v at = at
still_set (z ∷ xs) (suc i) zero v at = at
still_set (z ∷ xs) (suc i) (suc j) v at = still_set xs i j v at

pub now_set : {X : Type 0} (xs : List X) (i : ℕ) (v : X) → i < length xs → slice_get (slice_set xs i v) i ≡ Some v
now_set [] i v within = absurd (omega arith)
now_set (z ∷ xs) zero v within = refl
now_set (z ∷ xs) (suc i) v within = now_set xs i v (omega arith)
