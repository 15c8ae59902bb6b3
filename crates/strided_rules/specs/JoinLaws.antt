-- Laws of joins over pieces: the join has what the rule on one choice has, and is in normal form.
--   each_has, each_placed            over pieces
--   each_pair_has, each_pair_placed  over the choices of two pieces
--   settled_covers, settled_is       the value of what was joined
use Rattle.std.proofs.Common.{ℕ, ℤ, ◌≤◌, Option, Some, None, ⊎_elim}
use Rattle.alf_ops.specs.TwosComplement.{word}
use Rattle.domain_core.specs.WordSets.{IsWordSize}
use Rattle.progressions.specs.declared.ends.Progression.{Progression}
use Rattle.progressions.specs.declared.ends.Pieces.{Pieces}
use Rattle.progressions.specs.Progressions.{Has, HasSome, IsProgression}
use Rattle.progressions.specs.Parts.{IsPiece, IfPiece, ArePieces, SomeHas}
use Rattle.strided_rules.specs.Strides.{IsStride, Covers, norm}
use Rattle.strided_rules.specs.Joins.{added, at_piece, over, each, each_pair, SoFar, IfPlaced, settled}
use Rattle.strided_rules.specs.PlacedLaws.{norm_member, norm_placed, join_first, join_second, join_placed, whole_placed}

-- what was joined stays, and what is added comes in
pub added_keeps : (w t : ℕ) (p : Progression) (so_far : Option Progression) → 1 ≤ w → SoFar w so_far t
    → SoFar w (added w p so_far) t
added_keeps w t p None positive m = absurd m
added_keeps w t p (Some q) positive m = join_first w q (norm w p) t positive m

pub added_comes : (w : ℕ) (n : ℤ) (p : Progression) (so_far : Option Progression) → 1 ≤ w → Has p n
    → SoFar w (added w p so_far) (word w n)
added_comes w n p None positive h = norm_member w p n positive h
added_comes w n p (Some q) positive h = join_second w q (norm w p) (word w n) positive (norm_member w p n positive h)

-- a step at any piece keeps the word t
abbrev Keeps : ℕ → ℕ → (Progression → Option Progression → Option Progression) → Type 0
Keeps w t f = (p : Progression) (so_far : Option Progression) → SoFar w so_far t → SoFar w (f p so_far) t

-- a step at a piece that has n brings the word t in
abbrev Brings : ℕ → ℕ → ℤ → ℤ → ℤ → (Progression → Option Progression → Option Progression) → Type 0
Brings w t least most n f = (p : Progression) (so_far : Option Progression) → IsPiece least most p → Has p n → SoFar w (f p so_far) t

at_keeps : (w t : ℕ) (f : Progression → Option Progression → Option Progression) (o : Option Progression) (so_far : Option Progression) → Keeps w t f → SoFar w so_far t → SoFar w (at_piece o f so_far) t
at_keeps w t f None so_far keeps m = m
at_keeps w t f (Some p) so_far keeps m = keeps p so_far m

at_brings : (w t : ℕ) (least most n : ℤ) (f : Progression → Option Progression → Option Progression) (o : Option Progression) (so_far : Option Progression)
    → Brings w t least most n f → IfPiece least most o → HasSome o n → SoFar w (at_piece o f so_far) t
at_brings w t least most n f None so_far brings piece h = absurd h
at_brings w t least most n f (Some p) so_far brings piece h = brings p so_far piece h

over_keeps : (w t : ℕ) (f : Progression → Option Progression → Option Progression) (pieces : Pieces) (so_far : Option Progression) → Keeps w t f → SoFar w so_far t → SoFar w (over pieces f so_far) t
over_keeps w t f pieces so_far keeps m =
    let one = at_piece pieces.first f so_far in
    let two = at_piece pieces.second f one in
    at_keeps w t f pieces.third two keeps (at_keeps w t f pieces.second one keeps (at_keeps w t f pieces.first so_far keeps m))

over_brings : (w t : ℕ) (least most n : ℤ) (f : Progression → Option Progression → Option Progression) (pieces : Pieces) (so_far : Option Progression)
    → Keeps w t f → Brings w t least most n f → ArePieces least most pieces → SomeHas pieces n → SoFar w (over pieces f so_far) t
over_brings w t least most n f pieces so_far keeps brings are some =
    let one = at_piece pieces.first f so_far in
    let two = at_piece pieces.second f one in
    ⊎_elim
    (λ (h : HasSome pieces.first n). at_keeps w t f pieces.third two keeps (at_keeps w t f pieces.second one keeps (at_brings w t least most n f pieces.first so_far brings are.first h)))
    (λ more. ⊎_elim
    (λ (h : HasSome pieces.second n). at_keeps w t f pieces.third two keeps (at_brings w t least most n f pieces.second one brings are.second h))
    (λ (h : HasSome pieces.third n). at_brings w t least most n f pieces.third two brings are.third h)
    more)
    some

-- The join over the pieces has the word of m, where a piece has n and the rule takes pieces with n to progressions with
-- m.
pub each_has : (w : ℕ) (rule : Progression → Progression) (least most : ℤ) (pieces : Pieces) (n m : ℤ) → 1 ≤ w
    → ArePieces least most pieces → SomeHas pieces n
    → ((p : Progression) → IsPiece least most p → Has p n → Has (rule p) m)
    → SoFar w (each w rule pieces) (word w m)
unfolding each
each_has w rule least most pieces n m positive are some one =
    over_brings w (word w m) least most n (λ p. added w (rule p)) pieces None
    (λ p so_far h. added_keeps w (word w m) (rule p) so_far positive h)
    (λ p so_far piece h. added_comes w m (rule p) so_far positive (one p piece h))
    are some

-- The same over choices of two pieces.
pub each_pair_has : (w : ℕ) (rule : Progression → Progression → Progression) (least most low high : ℤ) (firsts seconds : Pieces) (n m r : ℤ) → 1 ≤ w
    → ArePieces least most firsts → SomeHas firsts n → ArePieces low high seconds → SomeHas seconds m
    → ((p q : Progression) → IsPiece least most p → IsPiece low high q → Has p n → Has q m → Has (rule p q) r)
    → SoFar w (each_pair w rule firsts seconds) (word w r)
unfolding each_pair
each_pair_has w rule least most low high firsts seconds n m r positive are some are' some' one =
    over_brings w (word w r) least most n (λ p. over seconds (λ q. added w (rule p q))) firsts None
    (λ p so_far h. over_keeps w (word w r) (λ q. added w (rule p q)) seconds so_far (λ q so_far' h'. added_keeps w (word w r) (rule p q) so_far' positive h') h)
    (λ p so_far piece h. over_brings w (word w r) low high m (λ q. added w (rule p q)) seconds so_far
    (λ q so_far' h'. added_keeps w (word w r) (rule p q) so_far' positive h')
    (λ q so_far' piece' h'. added_comes w r (rule p q) so_far' positive (one p q piece piece' h h'))
    are' some')
    are some

-- Normal form.

pub added_placed : (w : ℕ) (p : Progression) (so_far : Option Progression) → 1 ≤ w → IsProgression p → IfPlaced w so_far
    → IfPlaced w (added w p so_far)
added_placed w p None positive is placed = norm_placed w p positive is
added_placed w p (Some q) positive is placed = join_placed w q (norm w p) positive placed.progression (norm_placed w p positive is).progression

-- a step at a piece keeps the normal form
abbrev Places : ℕ → ℤ → ℤ → (Progression → Option Progression → Option Progression) → Type 0
Places w least most f = (p : Progression) (so_far : Option Progression) → IsPiece least most p → IfPlaced w so_far → IfPlaced w (f p so_far)

at_places : (w : ℕ) (least most : ℤ) (f : Progression → Option Progression → Option Progression) (o so_far : Option Progression)
    → Places w least most f → IfPiece least most o → IfPlaced w so_far → IfPlaced w (at_piece o f so_far)
at_places w least most f None so_far places piece placed = placed
at_places w least most f (Some p) so_far places piece placed = places p so_far piece placed

over_places : (w : ℕ) (least most : ℤ) (f : Progression → Option Progression → Option Progression) (pieces : Pieces) (so_far : Option Progression)
    → Places w least most f → ArePieces least most pieces → IfPlaced w so_far → IfPlaced w (over pieces f so_far)
over_places w least most f pieces so_far places are placed =
    let one = at_piece pieces.first f so_far in
    let two = at_piece pieces.second f one in
    at_places w least most f pieces.third two places are.third
    (at_places w least most f pieces.second one places are.second (at_places w least most f pieces.first so_far places are.first placed))

pub each_placed : (w : ℕ) (rule : Progression → Progression) (least most : ℤ) (pieces : Pieces) → 1 ≤ w
    → ArePieces least most pieces
    → ((p : Progression) → IsPiece least most p → IsProgression (rule p)) → IfPlaced w (each w rule pieces)
unfolding each
each_placed w rule least most pieces positive are one =
    over_places w least most (λ p. added w (rule p)) pieces None (λ p so_far piece placed. added_placed w (rule p) so_far positive (one p piece) placed) are tt

pub each_pair_placed : (w : ℕ) (rule : Progression → Progression → Progression) (least most low high : ℤ) (firsts seconds : Pieces) → 1 ≤ w
    → ArePieces least most firsts → ArePieces low high seconds
    → ((p q : Progression) → IsPiece least most p → IsPiece low high q → IsProgression (rule p q)) → IfPlaced w (each_pair w rule firsts seconds)
unfolding each_pair
each_pair_placed w rule least most low high firsts seconds positive are are' one =
    over_places w least most (λ p. over seconds (λ q. added w (rule p q))) firsts None
    (λ p so_far piece placed. over_places w low high (λ q. added w (rule p q)) seconds so_far
    (λ q so_far' piece' placed'. added_placed w (rule p q) so_far' positive (one p q piece piece') placed') are' placed)
    are tt

-- The value of what was joined.

pub settled_covers : (w t : ℕ) (o : Option Progression) → SoFar w o t → Covers (settled w o) t
settled_covers w t None m = absurd m
settled_covers w t (Some p) m = m

pub settled_is : (w : ℕ) (o : Option Progression) → IsWordSize w → IfPlaced w o → IsStride (settled w o)
settled_is w None size placed = record { size = size; placed = whole_placed w size.least }
settled_is w (Some p) size placed = record { size = size; placed = placed }
