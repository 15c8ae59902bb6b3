-- On the way to the laws of reducible.
--   crossing_irreducible  where three walks cross, it is not
use Rattle.std.proofs.Common.{ℕ, suc, List, [], ◌∷◌, ◌++◌, inl, inr, Contains, sym, ◌∙◌, subst, arith}
use Rattle.std.proofs.lemmas.List.Elements.{Contains-append_right, Contains-push_cases}
use Rattle.lists.specs.MemberLaws.{no_member}
use Rattle.graph_walks.specs.Walks.{IsDistinct}
use Rattle.graph_walks.specs.ListLaws.{contains_cases}
use Rattle.graph_walks.specs.WalkLaws.{walk_begins, walk_ends}
use Rattle.domain_core.specs.Reducible.{IsReducible, IsCrossing}

-- ---- three walks that cross

-- a node that stands before h is not h and stands nowhere after it
apart : (prefix rest : List ℕ) (h d : ℕ) → IsDistinct (prefix ++ h ∷ rest) → Contains prefix d → Contains (h ∷ rest) d
    → ⊥
apart [] rest h d once earlier later = no_member d earlier
apart (x ∷ prefix) rest h d once earlier later =
    elim (contains_cases x prefix d earlier) [
      | inl e ↦ let there : Contains (prefix ++ h ∷ rest) d = Contains-append_right prefix (h ∷ rest) d later in
          once 0 (suc there.0) d (omega arith) (let low = there.1 in omega arith) (sym e ∙ sym there.2)
      | inr more ↦ apart prefix rest h d (λ i j e before_j low. once (suc i) (suc j) e (omega arith) (omega arith)) more later
    ]

-- a graph with three such walks is not reducible
pub crossing_irreducible : (Leads : ℕ → ℕ → Type 0) (to_header to_tail around : List ℕ)
    → IsCrossing Leads to_header to_tail around → IsReducible Leads → ⊥
crossing_irreducible Leads to_header to_tail around c reducible =
    let r = reducible c.u c.h to_tail c.to_u c.leads_back in
    let d = r.0 in
    let on_tail : Contains (c.h ∷ c.rest) d = subst (λ (xs : List ℕ). Contains xs d) c.tail_is r.1 in
    let on_header : Contains (c.prefix ++ c.h ∷ []) d = subst (λ (xs : List ℕ). Contains xs d) c.header_is (r.2 c.h (walk_begins Leads c.h c.u to_tail c.to_u) to_header c.to_h) in
    elim (Contains-push_cases c.prefix c.h d on_header) [
      | inl before ↦ apart c.prefix c.rest c.h d c.once before on_tail
      | inr e ↦ c.without_h (subst (λ (n : ℕ). Contains around n) (sym e) (r.2 c.u (walk_ends Leads c.h c.u to_tail c.to_u) around c.past_h))
    ]
