-- One scope of a chain, and then its parents.
--   from_last   a scope without a parent is the last of its chain
--   from_more   another is followed by the chain of its parent
--   own_low, holds_by, around_by   what such walks tell from a node's row
--   any_last, any_other, any_here   whether a scope is on such a chain
use Rattle.std.proofs.Common.{◌≡◌, ◌≢◌, ◌==◌, ℕ, zero, suc, ◌+◌, Bool, true, false, List, [], ◌∷◌, ◌<◌, ◌↔◌, IsTrue, length, map, reverse, get_or, subst, Some, None, refl, ap, sym, ◌∙◌, arith, add-one}
use Rattle.std.specs.List.{list_any}
use Rattle.std.proofs.lemmas.Bool.{ne_eqb, eq-eqb}
use Rattle.std.proofs.lemmas.List.{length-map}
use Rattle.domain_core.specs.declared.outline.NodeRow.{NodeRow}
use Rattle.domain_core.specs.declared.outline.ScopeRow.{ScopeRow}
use Rattle.domain_core.specs.Outlines.{Outlined, shape_of, parent_of, scopes_from, scopes_around, is_held, Holds, IsOutline}
use Rattle.domain_core.specs.OutlineLaws.{held_is, is_holder}

-- a scope without a parent is the last of its chain
pub from_last : (scopes : List ScopeRow) (k j s : ℕ) → k ≡ j + 1 → parent_of scopes s ≡ None
    → scopes_from scopes k s ≡ s ∷ []
from_last scopes k j s more top = rw (more, add-one, top) refl

-- another is followed by the chain of its parent
pub from_more : (scopes : List ScopeRow) (k j s p : ℕ) → k ≡ j + 1 → parent_of scopes s ≡ Some p
    → scopes_from scopes k s ≡ s ∷ scopes_from scopes j p
from_more scopes k j s p more e = rw (more, add-one, e) refl

-- a scope is on its own chain
pub any_here : (scopes : List ScopeRow) (k j s t : ℕ) → k ≡ j + 1 → s ≡ t
    → list_any (λ n. t == n) (scopes_from scopes k s) ≡ true
any_here scopes k j s t more same = rw (more, add-one, eq-eqb t s (sym same)) refl

-- no other is on the chain of a scope without a parent
pub any_last : (scopes : List ScopeRow) (k j s t : ℕ) → k ≡ j + 1 → s ≢ t → parent_of scopes s ≡ None
    → list_any (λ n. t == n) (scopes_from scopes k s) ≡ false
any_last scopes k j s t more other top = rw (more, add-one, top, ne_eqb t s (λ e. other (sym e))) refl

-- another is on a chain where it is on that of the parent
pub any_other : (scopes : List ScopeRow) (k j s t p : ℕ) → k ≡ j + 1 → s ≢ t → parent_of scopes s ≡ Some p
    → list_any (λ n. t == n) (scopes_from scopes k s) ≡ list_any (λ n. t == n) (scopes_from scopes j p)
any_other scopes k j s t p more other e = rw (more, add-one, e, ne_eqb t s (λ same. other (sym same))) refl

-- the scope in a node's row is the node's own
own_at : (nodes : List NodeRow) (n : ℕ) (row : NodeRow) → n < length nodes → row ≡ get_or nodes n row
    → row.scope ≡ get_or (map (λ (r : NodeRow). r.scope) nodes) n 0
own_at [] n row low is = absurd (omega arith)
own_at (x ∷ nodes) zero row low is = ap (λ (r : NodeRow). r.scope) is
own_at (x ∷ nodes) (suc n) row low is = own_at nodes n row (omega arith) is

module _ (z : Outlined) (ok : IsOutline (shape_of z)) (n : ℕ) (row : NodeRow) (low : n < length z.nodes) (is : row ≡ get_or z.nodes n row) where
  node_low : n < length (shape_of z).own
  node_low = let e : length (map (λ (r : NodeRow). r.scope) z.nodes) ≡ length z.nodes = length-map z.nodes (λ (r : NodeRow). r.scope) in omega arith

  -- it is a scope
  pub own_low : row.scope < length z.scopes
  own_low = subst (λ (s : ℕ). s < length z.scopes) (sym (own_at z.nodes n row low is)) (ok.scopes_within n node_low)

  -- a walk up from it tells whether a scope holds the node
  pub holds_by : (t : ℕ) (answer : Bool)
      → answer ≡ list_any (λ s. t == s) (scopes_from z.scopes (length z.scopes) row.scope)
      → IsTrue answer ↔ Holds (shape_of z) t n
  holds_by t answer told =
      let whole : answer ≡ is_held (shape_of z) t n = told ∙ ap (λ (s : ℕ). list_any (λ k. t == k) (scopes_from z.scopes (length z.scopes) s)) (own_at z.nodes n row low is) in
      ((λ (yes_is : answer ≡ true). held_is (shape_of z) ok t n (sym whole ∙ yes_is)), (λ held. whole ∙ is_holder (shape_of z) ok t n held))

  -- and turned round it has the scopes around the node
  pub around_by : (found : List ℕ) → found ≡ scopes_from z.scopes (length z.scopes) row.scope
      → reverse found ≡ scopes_around (shape_of z) n
  around_by found told = ap (λ (xs : List ℕ). reverse xs) (told ∙ ap (λ (s : ℕ). scopes_from z.scopes (length z.scopes) s) (own_at z.nodes n row low is))
