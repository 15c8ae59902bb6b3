-- Lists from which two elements are taken, and into which their join is put.
--   earlier_stays   an element before the one that is taken out stays
--   are_same        the test of two places is that of their elements
--   joined_in, merged_in   the join stands in the room of the first
use Rattle.std.proofs.Common.{◌≡◌, ◌<◌, ◌↔◌, ℕ, zero, suc, Bool, true, List, [], ◌∷◌, ◌++◌, length, take, drop, slice_get, slice_set, Some, refl, ap, sym, ◌∙◌, arith}
use Rattle.std.specs.List.{remove}
use Rattle.std.proofs.lemmas.Option.{none-some, same_Some}
use Rattle.domain_core.specs.Orders.{Order}
use Rattle.worklist_rules.specs.Events.{met}
use Rattle.worklist_rules.specs.Pools.{Spot}

-- an element before the one that is taken out stays
pub earlier_stays : {X : Type 0} (xs : List X) (i j : ℕ) → i < j
    → slice_get (take j xs ++ drop (suc j) xs) i ≡ slice_get xs i
earlier_stays [] zero zero low = refl
earlier_stays [] (suc i) zero low = refl
earlier_stays [] zero (suc j) low = refl
earlier_stays [] (suc i) (suc j) low = refl
earlier_stays (x ∷ xs) zero zero low = absurd (omega arith)
earlier_stays (x ∷ xs) zero (suc j) low = refl
earlier_stays (x ∷ xs) (suc i) zero low = absurd (omega arith)
earlier_stays (x ∷ xs) (suc i) (suc j) low = earlier_stays xs i j (omega arith)

-- the list with the element y at i, before those that stood there
abbrev pub put_in : {X : Type 0} → List X → ℕ → X → List X
put_in xs i y = take i xs ++ y ∷ drop i xs

-- the join stands in the room of the first
pub joined_in : {X : Type 0} (xs : List X) (i j : ℕ) (a y : X) → i < j → slice_get xs i ≡ Some a
    → put_in (remove (remove xs j) i) i y ≡ remove (slice_set xs i y) j
joined_in [] i j a y low at = absurd (none-some a at)
joined_in (x ∷ xs) zero zero a y low at = absurd (omega arith)
joined_in (x ∷ xs) zero (suc j) a y low at = refl
joined_in (x ∷ xs) (suc i) zero a y low at = absurd (omega arith)
joined_in (x ∷ xs) (suc i) (suc j) a y low at = ap (λ ys. x ∷ ys) (joined_in xs i j a y (omega arith) at)

-- an element at a place within
pub element_at : {X : Type 0} (xs : List X) (i : ℕ) → i < length xs → (x : X) × (slice_get xs i ≡ Some x)
element_at [] i low = absurd (omega arith)
element_at (x ∷ xs) zero low = (x, refl)
element_at (x ∷ xs) (suc i) low = element_at xs i (omega arith)

-- the test of two places is that of their elements
pub are_same : {T R : Type 0} (spots : List (Spot T R)) (i j : ℕ) (same : Bool) → i < j → j < length spots
    → ((a b : Spot T R) → slice_get spots i ≡ Some a → slice_get spots j ≡ Some b → (same ≡ true) ↔ (a.position ≡ b.position))
    → (same ≡ true) ↔ ((a b : Spot T R) × (i < j) × (slice_get spots i ≡ Some a) × (slice_get spots j ≡ Some b) × (a.position ≡ b.position))
are_same spots i j same before within tells =
    let first = element_at spots i (omega arith) in
    let second = element_at spots j within in
    ((λ told. (first.0, second.0, before, first.1, second.1, (tells first.0 second.0 first.1 second.1).0 told)), (λ (a, b, low, at_a, at_b, is). (tells a b at_a at_b).1 is))

-- the list after the join of two elements
pub merged_in : {T R : Type 0} (states : Order T) (recorders : Order R) (xs ys zs after : List (Spot T R)) (i j : ℕ) (p q y a b : Spot T R) → i < j → ys ≡ take j xs ++ drop (suc j) xs → zs ≡ take i ys ++ drop (suc i) ys
    → slice_get xs j ≡ Some q → slice_get ys i ≡ Some p → y ≡ met states recorders p q → after ≡ take i zs ++ y ∷ drop i zs → slice_get xs i ≡ Some a → slice_get xs j ≡ Some b
    → after ≡ remove (slice_set xs i (met states recorders a b)) j
merged_in {T} {R} states recorders xs ys zs after i j p q y a b low first second at_q at_p is put at_a at_b =
    let one : p ≡ a = same_Some p a (sym at_p ∙ ap (λ (l : List (Spot T R)). slice_get l i) first ∙ earlier_stays xs i j low ∙ at_a) in
    let two : q ≡ b = same_Some q b (sym at_q ∙ at_b) in
    let joined : y ≡ met states recorders a b = is ∙ ap (λ (s : Spot T R). met states recorders s q) one ∙ ap (λ (s : Spot T R). met states recorders a s) two in
    let left : zs ≡ remove (remove xs j) i = second ∙ ap (λ (l : List (Spot T R)). remove l i) first in
    put ∙ ap (λ (l : List (Spot T R)). put_in l i y) left ∙ joined_in xs i j a y low at_a ∙ ap (λ (s : Spot T R). remove (slice_set xs i s) j) joined
