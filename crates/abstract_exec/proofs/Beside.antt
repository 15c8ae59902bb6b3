-- Positions along an edge that stays in the scopes of its source.
--   passes         past a scope that the node does not head, only those further out are ahead
--   outermost_passed   and past the outermost none is
--   own_last       the scopes around a node: those around its own one, and this one
--   begins_with, ends_with   the position at the source, and that at the end of the edge
--   number_low     the number of the own scope is not too great
--   entered_once, entered_not   a scope has one more where the node is its header, and else the same
--   popped         what is left without the last
--   last_two       the last two of a list
use Rattle.std.proofs.Common.{◌≡◌, ◌<◌, ◌+◌, ℕ, zero, suc, true, false, List, [], ◌∷◌, ◌++◌, ◌⊎◌, inl, inr, Contains, length, reverse, take, ◌-◌, Option, None, Some, slice_index, refl, ap, sym, ◌∙◌, subst, arith}
use Rattle.std.specs.Option.{option_map_or}
use Rattle.std.proofs.lemmas.Bool.{ne_eqb, eq-eqb}
use Rattle.std.proofs.lemmas.List.Elements.{Contains-append_right}
use Rattle.std.proofs.lemmas.List.{append_assoc, reverse-append, same_from_push, take-append-le, take_all, length-append}
use Rattle.lists.specs.MemberLaws.{no_member, first_member, first_or_further}
use Rattle.domain_core.specs.declared.outline.ScopeRow.{ScopeRow}
use Rattle.domain_core.specs.Outlines.{Shape, IsOutline, LeadsTo, here, up, parent_of, header_of, scopes_from, scopes_around}
use Rattle.domain_core.specs.OutlineLaws.{of_reverse}
use Rattle.domain_core.specs.Executions.{is_header}
use Rattle.worklist_rules.specs.Positions.{ranks_and_turns, header_rank, position_by, turn_in, entered, moved_position}
use Rattle.worklist_rules.specs.PositionLaws.{same_turns, turn_found, position_beside}

-- past a scope that the node does not head, only those further out are ahead
pub passes : (o : Shape) (node s p t : ℕ) → (header_of o.scopes s ≡ node → ⊥) → parent_of o.scopes s ≡ Some p
    → LeadsTo o.scopes t s → (is_header o t node ≡ false) ⊎ LeadsTo o.scopes t p
passes o node s p t other is here = inl (ne_eqb (header_of o.scopes t) node other)
passes o node s p t other is (up {s = x} {p = q} e way) = let same : q ≡ p = (let both : Some q ≡ Some p = sym e ∙ is in cc) in inr (subst (λ (x : ℕ). LeadsTo o.scopes t x) same way)

-- and past the outermost none is
pub outermost_passed : (o : Shape) (node s t : ℕ) → (header_of o.scopes s ≡ node → ⊥) → parent_of o.scopes s ≡ None
    → LeadsTo o.scopes t s → is_header o t node ≡ false
outermost_passed o node s t other is here = ne_eqb (header_of o.scopes t) node other
outermost_passed o node s t other is (up {s = x} {p = q} e way) = absurd (let both : Some q ≡ None = sym e ∙ is in cc)

-- the scopes of a chain lie around its first one
further_out : (scopes : List ScopeRow) (k : ℕ) (q : Option ℕ) (t : ℕ)
    → ((p : ℕ) → Contains (scopes_from scopes k p) t → LeadsTo scopes t p)
    → Contains (option_map_or (λ p. scopes_from scopes k p) q []) t → (p : ℕ) × (q ≡ Some p) × LeadsTo scopes t p
further_out scopes k None t leads there = no_member t there
further_out scopes k (Some p) t leads there = (p, refl, leads p there)

on_chain : (scopes : List ScopeRow) (k s t : ℕ) → Contains (scopes_from scopes k s) t → LeadsTo scopes t s
on_chain scopes zero s t there = no_member t there
on_chain scopes (suc k) s t there =
    first_or_further s (option_map_or (λ p. scopes_from scopes k p) (parent_of scopes s) []) t there
    (λ same. subst (λ (x : ℕ). LeadsTo scopes t x) (sym same) here)
    (λ further. let out = further_out scopes k (parent_of scopes s) t (λ p. on_chain scopes k p t) further in up out.1 out.2)

-- the scopes around a node: those around its own one, and this one
own_last : (scopes : List ScopeRow) (k s : ℕ) → s < k
    → (front : List ℕ) × (reverse (scopes_from scopes k s) ≡ front ++ s ∷ [])
    × ((t : ℕ) → Contains front t → (p : ℕ) × (parent_of scopes s ≡ Some p) × LeadsTo scopes t p)
own_last scopes zero s low = absurd (omega arith)
own_last scopes (suc k) s low =
    let rest : List ℕ = option_map_or (λ p. scopes_from scopes k p) (parent_of scopes s) [] in
    (reverse rest, reverse-append (s ∷ []) rest, λ t there. further_out scopes k (parent_of scopes s) t (λ p. on_chain scopes k p t) (of_reverse rest t there))

turns_more : (o : Shape) (turn : ℕ → ℕ) (front : List ℕ) (s : ℕ)
    → ranks_and_turns o turn (front ++ s ∷ []) ≡ ranks_and_turns o turn front ++ header_rank o s ∷ turn s ∷ []
turns_more o turn [] s = refl
turns_more o turn (t ∷ front) s = ap (λ (xs : List ℕ). header_rank o t ∷ turn t ∷ xs) (turns_more o turn front s)

-- what is left without the last
pub popped : (front items left : List ℕ) (last : ℕ) → items ≡ front ++ last ∷ [] → left ≡ take (length items - 1) items
    → left ≡ front
popped front items left last is rest =
    let long : length items - 1 ≡ length front = (let e : length items ≡ length (front ++ last ∷ []) = ap (λ (xs : List ℕ). length xs) is in let f = length-append front (last ∷ []) in omega arith) in
    rest ∙ ap (λ (n : ℕ). take n items) long ∙ ap (λ (xs : List ℕ). take (length front) xs) is ∙ take-append-le (length front) front (last ∷ []) (omega arith) ∙ take_all (length front) front (omega arith)

-- the last two of a list
pub last_two : (front others : List ℕ) (a b x y : ℕ) → front ++ a ∷ b ∷ [] ≡ others ++ x ∷ y ∷ []
    → (front ≡ others) × (a ≡ x)
last_two front others a b x y same =
    let both = same_from_push (front ++ a ∷ []) (others ++ x ∷ []) b y (append_assoc front (a ∷ []) (b ∷ []) ∙ same ∙ sym (append_assoc others (x ∷ []) (y ∷ []))) in
    same_from_push front others a x both.0

-- a scope has one more where the node is its header, and else the same
pub entered_once : (o : Shape) (k s number : ℕ) → header_of o.scopes s ≡ k → entered o k s number ≡ number + 1
entered_once o k s number is = let header : is_header o s k ≡ true = eq-eqb (header_of o.scopes s) k is in rw header refl

pub entered_not : (o : Shape) (k s number : ℕ) → (header_of o.scopes s ≡ k → ⊥) → entered o k s number ≡ number
entered_not o k s number other = let none : is_header o s k ≡ false = ne_eqb (header_of o.scopes s) k other in rw none refl

module _ (o : Shape) (ok : IsOutline o) (n k : ℕ) (turn : ℕ → ℕ) (low : k < length o.own) (same : scopes_around o n ≡ scopes_around o k)
    (outer : (t p : ℕ) → parent_of o.scopes (slice_index o.own k) ≡ Some p → LeadsTo o.scopes t p → is_header o t k ≡ false) where
  abbrev s : ℕ
  s = slice_index o.own k

  pub last : (front : List ℕ) × (scopes_around o k ≡ front ++ s ∷ [])
      × ((t : ℕ) → Contains front t → (p : ℕ) × (parent_of o.scopes s ≡ Some p) × LeadsTo o.scopes t p)
  last = own_last o.scopes (length o.scopes) s (ok.scopes_within k low)

  -- the position at the end of the edge, whose own scope has this number
  pub ends_with : (number : ℕ) → entered o k s (turn s) ≡ number → moved_position o n (position_by o turn n) k ≡ (ranks_and_turns o turn last.0 ++ header_rank o s ∷ []) ++ number ∷ slice_index o.ranks k ∷ []
  ends_with number is =
      let next : ℕ → ℕ = λ t. entered o k t (turn t) in
      let front : List ℕ = last.0 in
      let kept : ranks_and_turns o next front ≡ ranks_and_turns o turn front = same_turns o next turn front (λ t there. let out = last.2 t there in let none : is_header o t k ≡ false = outer t out.0 out.1 out.2 in rw none refl) in
      position_beside o n k turn same
      ∙ ap (λ (xs : List ℕ). ranks_and_turns o next xs ++ slice_index o.ranks k ∷ []) last.1
      ∙ ap (λ (xs : List ℕ). xs ++ slice_index o.ranks k ∷ []) (turns_more o next front s ∙ ap (λ (xs : List ℕ). xs ++ header_rank o s ∷ next s ∷ []) kept)
      ∙ append_assoc (ranks_and_turns o turn front) (header_rank o s ∷ next s ∷ []) (slice_index o.ranks k ∷ [])
      ∙ ap (λ (m : ℕ). ranks_and_turns o turn front ++ header_rank o s ∷ m ∷ slice_index o.ranks k ∷ []) is
      ∙ sym (append_assoc (ranks_and_turns o turn front) (header_rank o s ∷ []) (number ∷ slice_index o.ranks k ∷ []))

  pub begins_with : position_by o turn n ≡ (ranks_and_turns o turn last.0 ++ header_rank o s ∷ []) ++ turn s ∷ slice_index o.ranks n ∷ []
  begins_with =
      ap (λ (xs : List ℕ). ranks_and_turns o turn xs ++ slice_index o.ranks n ∷ []) (same ∙ last.1)
      ∙ ap (λ (xs : List ℕ). xs ++ slice_index o.ranks n ∷ []) (turns_more o turn last.0 s)
      ∙ append_assoc (ranks_and_turns o turn last.0) (header_rank o s ∷ turn s ∷ []) (slice_index o.ranks n ∷ [])
      ∙ sym (append_assoc (ranks_and_turns o turn last.0) (header_rank o s ∷ []) (turn s ∷ slice_index o.ranks n ∷ []))

  -- the number of the own scope is not too great
  pub number_low : (limit : ℕ) → ((t : ℕ) → turn_in (scopes_around o n) (position_by o turn n) t < limit)
      → turn s < limit
  number_low limit low_turns =
      let there = subst (λ (xs : List ℕ). Contains xs s) (sym (same ∙ last.1)) (Contains-append_right last.0 (s ∷ []) s (first_member s [])) in
      let found = turn_found o turn (scopes_around o n) (slice_index o.ranks n ∷ []) s there in
      let below = low_turns s in
      omega arith
