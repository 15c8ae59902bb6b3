-- Numbers of 16 bits, and facts that limit a node.
--   IsLow fact         the total that the fact tells, if it does, has 16 bits
--   AreCheap o         a visit of no node costs more than 16 bits
--   Limits n fact      the fact says how often a run leaves the node at most
use Rattle.std.specs.Prelude.{◌≡◌, ◌≤◌, ◌<◌, ◌⊎◌, ℕ, length, slice_index}
use Rattle.domain_core.specs.Outlines.{Outlined}
use Rattle.flow_facts.specs.declared.fact.Fact.{Fact}
use Rattle.flow_facts.specs.declared.fact.Fact.TheVariants.{Loop, Count, Dead, Total, Pair, Alarm}
use Rattle.dual_check.specs.Openings.{costs_of}

-- the total that the fact tells, if it does, has 16 bits
abbrev pub IsLow : Fact → Type 0
IsLow (Loop s low high) = Unit {0}
IsLow (Count s n low high) = Unit {0}
IsLow (Dead n) = Unit {0}
IsLow (Total n low high) = high ≤ 65535
IsLow (Pair s a b) = Unit {0}
IsLow (Alarm n fault) = Unit {0}

-- a visit of no node costs more than 16 bits
abbrev pub AreCheap : Outlined → Type 0
AreCheap o = (n : ℕ) → n < length o.nodes → slice_index (costs_of o) n ≤ 65535

-- the fact says how often a run leaves the node at most
abbrev pub Limits : ℕ → Fact → Type 0
Limits n fact = (fact ≡ Dead n) ⊎ ((low : ℕ) × (high : ℕ) × (fact ≡ Total n low high))
