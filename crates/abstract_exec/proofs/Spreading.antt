-- Successors, one after another.
--   turned_push      a list with one more at its end, turned round
--   one_spread       one successor more
--   others_along     what is along holds of the others
--   book_of_after    the book after one successor is one of the outline
use Rattle.std.proofs.Common.{◌≡◌, ◌≢◌, ◌<◌, ℕ, List, [], ◌∷◌, ◌++◌, length, reverse, Contains, ap, sym, ◌∙◌, subst}
use Rattle.std.proofs.lemmas.List.{append_assoc, append-nil, reverse-append, reverse-reverse}
use Rattle.domain_core.specs.Orders.{Order}
use Rattle.domain_core.specs.Outlines.{Outlined}
use Rattle.domain_core.specs.Recordings.{Recording, IsRecording, IsSuited}
use Rattle.worklist_rules.specs.Pools.{Spot}
use Rattle.worklist_rules.specs.Events.{book_after, spots_after, spread_book, spread_spots}
use Rattle.worklist_rules.specs.Successors.{AreAlong}
use Rattle.worklist_rules.specs.SuccessorLaws.{along_first, along_rest, after_of}

-- a list with one more at its end, turned round
pub turned_push : {X : Type 0} (xs : List X) (x : X) → reverse (xs ++ x ∷ []) ≡ x ∷ reverse xs
turned_push xs x = reverse-append xs (x ∷ [])

-- what is taken off the end of a list stands first in its reverse
pub turned_pop : {X : Type 0} (all xs : List X) (x last : X) → all ≡ xs ++ x ∷ []
    → reverse all ++ last ∷ [] ≡ x ∷ (reverse xs ++ last ∷ [])
turned_pop all xs x last e = ap (λ ys. reverse ys ++ last ∷ []) e ∙ ap (λ ys. ys ++ last ∷ []) (turned_push xs x)

-- all but the last, turned round twice
pub turned_twice : {X : Type 0} (all xs turned : List X) (last : X) → all ≡ xs ++ last ∷ [] → turned ≡ reverse xs
    → reverse turned ++ last ∷ [] ≡ all
turned_twice all xs turned last is was = ap (λ ys. reverse ys ++ last ∷ []) was ∙ ap (λ ys. ys ++ last ∷ []) (reverse-reverse xs) ∙ sym is

module _ {T R B : Type 0} (z : Recording R B) (o : Outlined) (position : List ℕ) (r : R) (n : ℕ) where
  -- before the first
  pub begun : (made : List (Spot T R)) (all next : List (ℕ × T)) (b : B) → made ≡ [] → all ≡ next
      → made ++ spread_spots z o position r n b all ≡ spread_spots z o position r n b next
  begun made all next b none is = ap (λ (spots : List (Spot T R)). spots ++ spread_spots z o position r n b all) none ∙ ap (λ (xs : List (ℕ × T)). spread_spots z o position r n b xs) is

  -- one successor more
  pub more_spots : (made after : List (Spot T R)) (all next : List (ℕ × T)) (s : ℕ × T) (b c : B) (whole : List (Spot T R)) → all ≡ s ∷ next → after ≡ made ++ spots_after z o position r n b s → c ≡ book_after z o r n b s
      → made ++ spread_spots z o position r n b all ≡ whole → after ++ spread_spots z o position r n c next ≡ whole
  more_spots made after all next s b c whole is placed collected same =
      ap (λ (spots : List (Spot T R)). spots ++ spread_spots z o position r n c next) placed
      ∙ append_assoc made (spots_after z o position r n b s) (spread_spots z o position r n c next)
      ∙ ap (λ (book : B). made ++ (spots_after z o position r n b s ++ spread_spots z o position r n book next)) collected
      ∙ ap (λ (xs : List (ℕ × T)). made ++ spread_spots z o position r n b xs) (sym is) ∙ same

  pub more_book : (all next : List (ℕ × T)) (s : ℕ × T) (b c whole : B) → all ≡ s ∷ next → c ≡ book_after z o r n b s
      → spread_book z o r n b all ≡ whole → spread_book z o r n c next ≡ whole
  more_book all next s b c whole is collected same =
      ap (λ (book : B). spread_book z o r n book next) collected ∙ ap (λ (xs : List (ℕ × T)). spread_book z o r n b xs) (sym is) ∙ same

  -- the last one
  pub last_spots : (made after : List (Spot T R)) (s : ℕ × T) (b : B) (whole : List (Spot T R))
      → after ≡ made ++ spots_after z o position r n b s
      → made ++ spread_spots z o position r n b (s ∷ []) ≡ whole → after ≡ whole
  last_spots made after s b whole placed same = placed ∙ ap (λ (spots : List (Spot T R)). made ++ spots) (sym (append-nil (spots_after z o position r n b s))) ∙ same

  -- the book after one successor is one of the outline
  pub book_of_after : (order : Order R) → IsRecording R B order z → IsSuited z o → z.is_of o r → n < length o.nodes
      → (all next : List (ℕ × T)) (s : ℕ × T) (b c : B) → all ≡ s ∷ next → AreAlong o n all
      → c ≡ book_after z o r n b s → z.book_is_of o b → z.book_is_of o c
  book_of_after order laws suited mine low all next s b c is along collected its =
      subst (z.book_is_of o) (sym collected) (after_of order z o r n laws suited mine low b s its (along_first o n s next (subst (AreAlong o n) is along))).0

  pub others_along : (all next : List (ℕ × T)) (s : ℕ × T) → all ≡ s ∷ next → AreAlong o n all → AreAlong o n next
  others_along all next s is along = along_rest o n s next (subst (AreAlong o n) is along)

  pub one_along : (all next : List (ℕ × T)) (s : ℕ × T) → all ≡ s ∷ next → AreAlong o n all → s.0 ≢ length o.nodes
      → Contains o.edges (n, s.0) × (s.0 < length o.nodes)
  one_along all next s is along = along_first o n s next (subst (AreAlong o n) is along)
