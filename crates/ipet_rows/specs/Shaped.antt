-- Facts that fit an outline.
--   FitsOutline o fact   what the fact names is there and of the kind that it speaks of
--   FitOutline o facts   so of all facts
use Rattle.std.specs.Prelude.{◌≡◌, ◌≢◌, ◌<◌, List, length, All, slice_index}
use Rattle.domain_core.specs.declared.scope_kind.ScopeKind.TheVariants.{Loop as LoopScope}
use Rattle.domain_core.specs.Outlines.{Shape, header_of, kind_of}
use Rattle.flow_facts.specs.declared.fact.Fact.{Fact}
use Rattle.flow_facts.specs.declared.fact.Fact.TheVariants.{Loop, Count, Dead, Total, Pair, Alarm}

-- what the fact names is there, a loop is a loop, and nodes of a count or a pair have the scope as their own and are
-- not its header
abbrev pub FitsOutline : Shape → Fact → Type 0
FitsOutline o (Loop s low high) = (s < length o.scopes) × (kind_of o.scopes s ≡ LoopScope)
FitsOutline o (Count s n low high) = (s < length o.scopes) × (kind_of o.scopes s ≡ LoopScope) × (n < length o.own) × (slice_index o.own n ≡ s) × (header_of o.scopes s ≢ n)
FitsOutline o (Dead n) = n < length o.own
FitsOutline o (Total n low high) = n < length o.own
FitsOutline o (Pair s a b) =
    (s < length o.scopes) × (a < b) × (b < length o.own) × (slice_index o.own a ≡ s) × (slice_index o.own b ≡ s) × (header_of o.scopes s ≢ a) × (header_of o.scopes s ≢ b)
FitsOutline o (Alarm n fault) = n < length o.own

abbrev pub FitOutline : Shape → List Fact → Type 0
FitOutline o facts = All (λ f. FitsOutline o f) facts
