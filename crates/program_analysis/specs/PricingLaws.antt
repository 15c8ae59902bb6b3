-- Laws of pricing.
--   priced_shape          the two have one shape
use Rattle.std.proofs.Common.{◌≡◌, ℕ, List, map, ap, ◌∙◌}
use Rattle.domain_core.specs.declared.outline.ScopeRow.{ScopeRow}
use Rattle.domain_core.specs.Outlines.{Outlined, Shape, shape_of}
use Rattle.program_analysis.specs.Pricing.{IsPricedAs}

-- the two outlines have one shape
pub priced_shape : (old new : Outlined) → IsPricedAs old new → shape_of new ≡ shape_of old
priced_shape old new priced =
    let made : List (ℕ × ℕ) → List ℕ → List ℕ → List ScopeRow → Shape = λ edges own ranks scopes. record { edges = edges; own = own; ranks = ranks; scopes = scopes } in
    ap (λ (edges : List (ℕ × ℕ)). made edges (map (λ row. row.scope) new.nodes) (map (λ row. row.rank) new.nodes) new.scopes) priced.edges
    ∙ ap (λ (own : List ℕ). made old.edges own (map (λ row. row.rank) new.nodes) new.scopes) priced.own
    ∙ ap (λ (ranks : List ℕ). made old.edges (map (λ row. row.scope) old.nodes) ranks new.scopes) priced.ranks
    ∙ ap (made old.edges (map (λ row. row.scope) old.nodes) (map (λ row. row.rank) old.nodes)) priced.scopes
