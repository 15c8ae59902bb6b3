-- Laws of climbs.
--   own_at, own_low        the scope in a node's row is its own, and a node has one
--   own_in                 and it is a scope of the outline
--   parent_at, header_at   the parent and the header in a scope's row
--   from_last, from_more   a scope on a walk up, and what is above it
--   any_joined             what is found in one of two lists
use Rattle.std.proofs.Common.{◌≡◌, ◌<◌, ◌+◌, ◌==◌, ◌||◌, ℕ, zero, suc, List, [], ◌∷◌, ◌++◌, Option, None, Some, length, map, get_or, refl, ap, ◌∙◌, subst, arith, add-one}
use Rattle.std.specs.Prelude.{slice_get}
use Rattle.std.specs.List.{list_any}
use Rattle.std.proofs.lemmas.List.{length-map}
use Rattle.std.proofs.lemmas.Option.{get_or_from_slice_get}
use Rattle.lists.specs.TestLaws.{by_test}
use Rattle.domain_core.specs.declared.outline.NodeRow.{NodeRow}
use Rattle.domain_core.specs.declared.outline.ScopeRow.{ScopeRow}
use Rattle.domain_core.specs.Outlines.{Outlined, shape_of, no_scope, parent_of, header_of, scopes_from, IsOutline}

-- the scope in a node's row is its own
pub own_at : (nodes : List NodeRow) (n : ℕ) (row : NodeRow) → slice_get nodes n ≡ Some row
    → get_or (map (λ (r : NodeRow). r.scope) nodes) n 0 ≡ row.scope
own_at [] n row is = absurd (let bad : None ≡ Some row = is in cc)
own_at (x ∷ nodes) zero row is = let both : Some x ≡ Some row = is in let same : x ≡ row = cc in ap (λ (r : NodeRow). r.scope) same
own_at (x ∷ nodes) (suc n) row is = own_at nodes n row is

module _ (o : Outlined) where
  -- a node has one
  pub own_low : (n : ℕ) → n < length o.nodes → n < length (shape_of o).own
  own_low n low = let e : length (map (λ (r : NodeRow). r.scope) o.nodes) ≡ length o.nodes = length-map o.nodes (λ (r : NodeRow). r.scope) in omega arith

  -- and it is a scope of the outline
  pub own_in : IsOutline (shape_of o) → (n : ℕ) (row : NodeRow) → n < length o.nodes → slice_get o.nodes n ≡ Some row
      → row.scope < length o.scopes
  own_in ok n row low is = subst (λ (s : ℕ). s < length o.scopes) (own_at o.nodes n row is) (ok.scopes_within n (own_low n low))

  -- the parent in a scope's row
  pub parent_at : (s : ℕ) (row : ScopeRow) (parent : Option ℕ) → slice_get o.scopes s ≡ Some row → row.parent ≡ parent
      → parent_of o.scopes s ≡ parent
  parent_at s row parent is has = ap (λ (r : ScopeRow). r.parent) (get_or_from_slice_get o.scopes s row no_scope is) ∙ has

  -- and the header
  pub header_at : (s : ℕ) (row : ScopeRow) → slice_get o.scopes s ≡ Some row → header_of o.scopes s ≡ row.header
  header_at s row is = ap (λ (r : ScopeRow). r.header) (get_or_from_slice_get o.scopes s row no_scope is)

pub from_last : (scopes : List ScopeRow) (k j s : ℕ) → k ≡ j + 1 → parent_of scopes s ≡ None
    → scopes_from scopes k s ≡ s ∷ []
from_last scopes k j s more top = rw (more, add-one, top) refl

pub from_more : (scopes : List ScopeRow) (k j s p : ℕ) → k ≡ j + 1 → parent_of scopes s ≡ Some p
    → scopes_from scopes k s ≡ s ∷ scopes_from scopes j p
from_more scopes k j s p more e = rw (more, add-one, e) refl

-- what is found in one of two lists
pub any_joined : (t : ℕ) (xs ys : List ℕ)
    → list_any (λ n. t == n) (xs ++ ys) ≡ (list_any (λ n. t == n) xs || list_any (λ n. t == n) ys)
any_joined t [] ys = refl
any_joined t (x ∷ xs) ys = by_test (t == x) (λ is. rw is refl) (λ clear. rw clear (any_joined t xs ys))
