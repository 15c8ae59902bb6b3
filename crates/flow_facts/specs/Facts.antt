-- Facts, and the traces that meet them. A trace is the list of a run's nodes in their order.
--   places n nodes        how often the node stands among the nodes
--   IsBetween low high k  the number k is low to high
--   IsAbout o fact        the scope and the nodes that the fact names are those of the outline
--   Meets o trace fact    what the fact says is so of the trace
--   IsWider fact wider    the second is the first with a least count that is not greater and a greatest that is not less
use Rattle.std.specs.Prelude.{◌≡◌, ◌<◌, ◌≤◌, ◌==◌, ℕ, List, length, count_by, Contains}
use Rattle.domain_core.specs.Outlines.{Shape, header_of}
use Rattle.domain_core.specs.Executions.{IsExecution, IsIteration}
use Rattle.flow_facts.specs.declared.fact.Fact.{Fact}
use Rattle.flow_facts.specs.declared.fact.Fact.TheVariants.{Loop, Count, Dead, Total, Pair, Alarm}

-- how often the node stands among the nodes
abbrev pub places : ℕ → List ℕ → ℕ
places n nodes = count_by (λ m. n == m) nodes

-- the number k is low to high
abbrev pub IsBetween : ℕ → ℕ → ℕ → Type 0
IsBetween low high k = (low ≤ k) × (k ≤ high)

-- the scope and the nodes that the fact names are those of the outline
abbrev pub IsAbout : Shape → Fact → Type 0
IsAbout o (Loop s low high) = s < length o.scopes
IsAbout o (Count s n low high) = (s < length o.scopes) × (n < length o.own)
IsAbout o (Dead n) = n < length o.own
IsAbout o (Total n low high) = n < length o.own
IsAbout o (Pair s a b) = (s < length o.scopes) × (a < length o.own) × (b < length o.own)
IsAbout o (Alarm n fault) = n < length o.own

-- what the fact says is so of the trace
abbrev pub Meets : Shape → List ℕ → Fact → Type 0
Meets o trace (Loop s low high) = (execution : List ℕ) → IsExecution o s trace execution → IsBetween low high (places (header_of o.scopes s) execution)
Meets o trace (Count s n low high) = (execution : List ℕ) → IsExecution o s trace execution → IsBetween low high (places n execution)
Meets o trace (Dead n) = places n trace ≡ 0
Meets o trace (Total n low high) = IsBetween low high (places n trace)
Meets o trace (Pair s a b) = (iteration : List ℕ) → IsIteration o s trace iteration → Contains iteration a → Contains iteration b → ⊥
Meets o trace (Alarm n fault) = Unit {0}

-- the second is the first with a least count that is not greater and a greatest that is not less
pub data IsWider : Fact → Fact → Type 0 where
  wider_loop : (s low high lower higher : ℕ) → lower ≤ low → high ≤ higher
      → IsWider (Loop s low high) (Loop s lower higher)
  wider_count : (s n low high lower higher : ℕ) → lower ≤ low → high ≤ higher
      → IsWider (Count s n low high) (Count s n lower higher)
  wider_total : (n low high lower higher : ℕ) → lower ≤ low → high ≤ higher
      → IsWider (Total n low high) (Total n lower higher)
