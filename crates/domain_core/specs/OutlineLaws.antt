-- What follows for every outline.
--   leads_on            parents lead on
--   own_smallest        the own scope of a node lies in each scope that holds the node
--   holder_low          what holds a node is a scope of the outline
--   header_dominates    the header of a scope lies on every walk to a node of it
--   chain_of            each scope has a chain of scopes around it, chain_one one alone, and chain_short no longer than there are scopes
--   chain_holds, held_leads   the chain has exactly the scopes to which parents lead
--   member_found, found_member   what is in a list is found there, and nothing else
--   in_reverse, of_reverse       a list has the members of its reverse
--   chain_is            the first scopes of a chain, as many as there are scopes, are all of it
--   held_is, is_holder  the test for Holds is right
--   around_is           the scopes around a node are those that hold it
use Rattle.std.proofs.Common.{◌≡◌, ◌≢◌, ◌<◌, ◌≤◌, ◌==◌, ◌||◌, ℕ, zero, suc, Bool, true, false, List, [], ◌∷◌, ◌++◌, ◌↔◌, inl, inr, Some, None, Contains, length, get_or, reverse, refl, ap, sym, ◌∙◌, subst, arith}
use Rattle.std.specs.List.{list_any, IsDistinct, AllByRecursion}
use Rattle.std.proofs.lemmas.Bool.{ne_eqb, eqb-true, eq-eqb}
use Rattle.std.proofs.lemmas.List.{reverse-append, reverse-reverse}
use Rattle.std.proofs.lemmas.List.Elements.{Contains-append_left, Contains-push}
use Rattle.std.proofs.lemmas.Map.Steps.{length-le_from_distinct_below}
use Rattle.lists.specs.MemberLaws.{no_member, first_member, further_member}
use Rattle.lists.specs.TestLaws.{by_test}
use Rattle.graph_walks.specs.Walks.{Walk, stays, goes_on}
use Rattle.graph_walks.specs.ListLaws.{contains_cases}
use Rattle.domain_core.specs.declared.outline.ScopeRow.{ScopeRow}
use Rattle.domain_core.specs.Reducible.{IsEdge, Dominates}
use Rattle.domain_core.specs.Outlines.{Shape, LeadsTo, here, up, Holds, IsChain, outermost, inner, scopes_from, scopes_around, is_held, parent_of, header_of, IsOutline}

-- ---- parents

module _ (scopes : List ScopeRow) where
  -- parents lead on
  pub leads_on : (s t r : ℕ) → LeadsTo scopes s r → LeadsTo scopes t s → LeadsTo scopes t r
  leads_on s t r here more = more
  leads_on s t r (up {s = x} {p = p} e way) more = up e (leads_on s t p way more)

  -- to what parents lead is on the chain
  pub chain_holds : (s t : ℕ) (chain : List ℕ) → IsChain scopes s chain → LeadsTo scopes t s → Contains chain t
  chain_holds s t chain (outermost {s = x} top) here = first_member x []
  chain_holds s t chain (outermost {s = x} top) (up {s = y} {p = p} e way) = absurd (let both : Some p ≡ None = sym e ∙ top in cc)
  chain_holds s t chain (inner {s = x} {p = p} {chain = rest} e more) here = first_member x rest
  chain_holds s t chain (inner {s = x} {p = p} {chain = rest} e more) (up {s = y} {p = q} f way) =
      let same : q ≡ p = (let both : Some q ≡ Some p = sym f ∙ e in cc) in
      further_member x rest t (chain_holds p t rest more (subst (λ (n : ℕ). LeadsTo scopes t n) same way))

  -- and to what is on it parents lead
  pub held_leads : (s t : ℕ) (chain : List ℕ) → IsChain scopes s chain → Contains chain t → LeadsTo scopes t s
  held_leads s t chain (outermost {s = x} top) there =
      elim (contains_cases x [] t there) [ inl e ↦ subst (λ (n : ℕ). LeadsTo scopes t n) e here | inr none ↦ no_member t none ]
  held_leads s t chain (inner {s = x} {p = p} {chain = rest} e more) there =
      elim (contains_cases x rest t there) [ inl same ↦ subst (λ (n : ℕ). LeadsTo scopes t n) same here | inr later ↦ up e (held_leads p t rest more later) ]

  -- a scope has one chain
  pub chain_one : (s : ℕ) (first second : List ℕ) → IsChain scopes s first → IsChain scopes s second → first ≡ second
  chain_one s first second (outermost {s = x} top) (outermost {s = y} other) = refl
  chain_one s first second (outermost {s = x} top) (inner {s = y} {p = q} {chain = rest} f more) = absurd (let both : Some q ≡ None = sym f ∙ top in cc)
  chain_one s first second (inner {s = x} {p = p} {chain = rest} e more) (outermost {s = y} top) = absurd (let both : Some p ≡ None = sym e ∙ top in cc)
  chain_one s first second (inner {s = x} {p = p} {chain = rest} e more) (inner {s = y} {p = q} {chain = others} f further) =
      let same : q ≡ p = (let both : Some q ≡ Some p = sym f ∙ e in cc) in
      ap (λ (xs : List ℕ). x ∷ xs) (chain_one p rest others more (subst (λ (n : ℕ). IsChain scopes n others) same further))

  -- where parents lead to a scope without a parent, there is one
  pub chain_to : (top s : ℕ) → parent_of scopes top ≡ None → LeadsTo scopes top s
      → (chain : List ℕ) × IsChain scopes s chain
  chain_to top s none here = (top ∷ [], outermost none)
  chain_to top s none (up {s = x} {p = p} e way) = let more = chain_to top p none way in (x ∷ more.0, inner e more.1)

  -- a scope on a chain has a chain that is no longer
  chain_part : (s t : ℕ) (chain : List ℕ) → IsChain scopes s chain → Contains chain t
      → (part : List ℕ) × IsChain scopes t part × (length part ≤ length chain)
  chain_part s t chain (outermost {s = x} top) there =
      elim (contains_cases x [] t there) [ inl e ↦ subst (λ (n : ℕ). (part : List ℕ) × IsChain scopes n part × (length part ≤ 1)) (sym e) (x ∷ [], outermost top, omega arith) | inr none ↦ no_member t none ]
  chain_part s t chain (inner {s = x} {p = p} {chain = rest} e more) there =
      elim (contains_cases x rest t there) [
        | inl same ↦ subst (λ (n : ℕ). (part : List ℕ) × IsChain scopes n part × (length part ≤ length (x ∷ rest))) (sym same) (x ∷ rest, inner e more, omega arith)
        | inr later ↦ let r = chain_part p t rest more later in let shorter = r.2 in (r.0, r.1, omega arith)
      ]

  -- a number that differs from each of a list
  apart_all : (x : ℕ) (xs : List ℕ) → ((y : ℕ) → Contains xs y → x ≢ y) → AllByRecursion (λ y. (x == y) ≡ false) xs
  apart_all x [] other = tt
  apart_all x (y ∷ xs) other = (ne_eqb x y (other y (first_member y xs)), apart_all x xs (λ z there. other z (further_member y xs z there)))

  -- no scope stands on a chain twice
  chain_once : (s : ℕ) (chain : List ℕ) → IsChain scopes s chain → IsDistinct (λ m n. m == n) chain
  unfolding IsDistinct
  chain_once s chain (outermost {s = x} top) = (tt, tt)
  chain_once s chain (inner {s = x} {p = p} {chain = rest} e more) = (
    apart_all x rest (λ y there same.
        let part = chain_part p y rest more there in
        let whole = chain_one x part.0 (x ∷ rest) (subst (λ (n : ℕ). IsChain scopes n part.0) (sym same) part.1) (inner e more) in
        let long : length part.0 ≡ length (x ∷ rest) = ap (λ (xs : List ℕ). length xs) whole in
        let short = part.2 in
        omega arith),
    chain_once p rest more,
  )

  -- the first scopes of a chain, at least as many as it has, are all of it
  pub chain_is : (k s : ℕ) (chain : List ℕ) → IsChain scopes s chain → length chain ≤ k → scopes_from scopes k s ≡ chain
  chain_is zero s chain (outermost {s = x} top) most = absurd (omega arith)
  chain_is (suc k) s chain (outermost {s = x} top) most = rw top refl
  chain_is zero s chain (inner {s = x} {p = p} {chain = rest} e more) most = absurd (omega arith)
  chain_is (suc k) s chain (inner {s = x} {p = p} {chain = rest} e more) most = rw e (ap (λ (xs : List ℕ). x ∷ xs) (chain_is k p rest more (omega arith)))

-- a member is found, and what is found is a member
pub member_found : (xs : List ℕ) (t : ℕ) → Contains xs t → list_any (λ s. t == s) xs ≡ true
member_found [] t there = no_member t there
member_found (x ∷ xs) t there =
    elim (contains_cases x xs t there) [
      | inl e ↦ rw (eq-eqb t x e) refl
      | inr later ↦ by_test (t == x) (λ is. rw is refl) (λ clear. rw clear (member_found xs t later))
    ]

-- where one of two tests passes and it is not the first, it is the other
other_test : (a b : Bool) → a || b ≡ true → a ≡ false → b ≡ true
other_test true b found clear = absurd (let e : true ≡ false = clear in cc)
other_test false b found clear = found

pub found_member : (xs : List ℕ) (t : ℕ) → list_any (λ s. t == s) xs ≡ true → Contains xs t
found_member [] t found = absurd (let e : false ≡ true = found in cc)
found_member (x ∷ xs) t found =
    by_test (t == x) (λ is. subst (λ (n : ℕ). Contains (x ∷ xs) n) (sym (eqb-true t x is)) (first_member x xs))
    (λ clear. further_member x xs t (found_member xs t (other_test (t == x) (list_any (λ s. t == s) xs) found clear)))

-- a list has the members of its reverse
pub in_reverse : (xs : List ℕ) (t : ℕ) → Contains xs t → Contains (reverse xs) t
in_reverse [] t there = no_member t there
in_reverse (x ∷ xs) t there =
    subst (λ (ys : List ℕ). Contains ys t) (sym (reverse-append (x ∷ []) xs)) (
    elim (contains_cases x xs t there) [
      | inl e ↦ subst (λ (n : ℕ). Contains (reverse xs ++ x ∷ []) n) (sym e) (Contains-push (reverse xs) x)
      | inr later ↦ Contains-append_left (reverse xs) (x ∷ []) t (in_reverse xs t later)
    ]
    )

pub of_reverse : (xs : List ℕ) (t : ℕ) → Contains (reverse xs) t → Contains xs t
of_reverse xs t there = subst (λ (ys : List ℕ). Contains ys t) (reverse-reverse xs) (in_reverse (reverse xs) t there)

module _ (o : Shape) (ok : IsOutline o) where
  -- parents lead from a scope of the outline to scopes of it
  lead_low : (t r : ℕ) → LeadsTo o.scopes t r → r < length o.scopes → t < length o.scopes
  lead_low t r here low = low
  lead_low t r (up {s = s} {p = p} e way) low = lead_low t p way (ok.parents_within s p low e)

  -- what holds a node is a scope of the outline
  pub holder_low : (t n : ℕ) → n < length o.own → Holds o t n → t < length o.scopes
  holder_low t n low held = lead_low t (get_or o.own n 0) held (ok.scopes_within n low)

  -- where parents lead from one scope to another, the first lies in the second
  pub lies_in : (s t m : ℕ) → LeadsTo o.scopes t s → Holds o s m → Holds o t m
  lies_in s t m way held = leads_on o.scopes s t (get_or o.own m 0) held way

  -- the own scope of a node lies in each scope that holds the node
  pub own_smallest : (t n m : ℕ) → Holds o t n → Holds o (get_or o.own n 0) m → Holds o t m
  own_smallest t n m held other = lies_in (get_or o.own n 0) t m held other

  -- a walk to a node of a scope passes the header
  walk_enters : (t n : ℕ) (path : List ℕ) → Walk (IsEdge o.edges) 0 n path → n < length o.own → Holds o t n
      → Contains path (header_of o.scopes t)
  walk_enters t n path stays low held =
      subst (λ (k : ℕ). Contains (0 ∷ []) k) (sym (ap (λ (s : ℕ). header_of o.scopes s) (ok.first_alone t held) ∙ ok.first_scope.0)) (first_member 0 [])
  walk_enters t n path (goes_on {u = u} {v = v} {path = before} walk edge) low held =
      elim (ok.entered u v t edge low (holder_low t v low held) held) [
        | inl e ↦ subst (λ (k : ℕ). Contains (before ++ v ∷ []) k) e (Contains-push before v)
        | inr inside ↦ Contains-append_left before (v ∷ []) (header_of o.scopes t) (walk_enters t u before walk (ok.edges_within u v edge).0 inside)
      ]

  -- so the header lies on every walk to it
  pub header_dominates : (t n : ℕ) → n < length o.own → Holds o t n
      → Dominates (IsEdge o.edges) (header_of o.scopes t) n
  header_dominates t n low held path walk = walk_enters t n path walk low held

  -- each scope has a chain of scopes around it
  pub chain_of : (s : ℕ) → s < length o.scopes → (chain : List ℕ) × IsChain o.scopes s chain
  chain_of s low = chain_to o.scopes 0 s ok.first_scope.2 (ok.parents_lead s low)

  -- a chain is no longer than there are scopes
  pub chain_short : (s : ℕ) (chain : List ℕ) → s < length o.scopes → IsChain o.scopes s chain
      → length chain ≤ length o.scopes
  chain_short s chain low is =
      length-le_from_distinct_below chain (length o.scopes) (chain_once o.scopes s chain is)
      (λ t found. lead_low t s (held_leads o.scopes s t chain is (found_member chain t found)) low)

  -- an own scope is a scope of the outline, and so is 0, which is read where there is no node
  own_within : (n : ℕ) → get_or o.own n 0 < length o.scopes
  own_within n = each o.own n ok.scopes_within
    where
      first_low : 0 < length o.scopes
      first_low = let low = ok.scopes_within 0 ok.some in omega arith

      each : (own : List ℕ) (k : ℕ) → ((m : ℕ) → m < length own → get_or own m 0 < length o.scopes)
          → get_or own k 0 < length o.scopes
      each [] k within = first_low
      each (s ∷ own) zero within = within 0 (omega arith)
      each (s ∷ own) (suc k) within = each own k (λ m low. within (suc m) (omega arith))

  -- the chain of a node's own scope, as the code walks it
  pub chain_at : (n : ℕ)
      → IsChain o.scopes (get_or o.own n 0) (scopes_from o.scopes (length o.scopes) (get_or o.own n 0))
  chain_at n =
      let own = own_within n in
      let r = chain_of (get_or o.own n 0) own in
      subst (λ (chain : List ℕ). IsChain o.scopes (get_or o.own n 0) chain)
      (sym (chain_is o.scopes (length o.scopes) (get_or o.own n 0) r.0 r.1 (chain_short (get_or o.own n 0) r.0 own r.1))) r.1

  -- the test for Holds is right
  pub held_is : (t n : ℕ) → is_held o t n ≡ true → Holds o t n
  held_is t n found = held_leads o.scopes (get_or o.own n 0) t _ (chain_at n) (found_member _ t found)

  pub is_holder : (t n : ℕ) → Holds o t n → is_held o t n ≡ true
  is_holder t n held = member_found _ t (chain_holds o.scopes (get_or o.own n 0) t _ (chain_at n) held)

  -- the scopes around a node are those that hold it
  pub around_is : (t n : ℕ) → Contains (scopes_around o n) t ↔ Holds o t n
  around_is t n = (
    (λ there. held_leads o.scopes (get_or o.own n 0) t _ (chain_at n) (of_reverse _ t there)),
    (λ held. in_reverse _ t (chain_holds o.scopes (get_or o.own n 0) t _ (chain_at n) held)),
  )
