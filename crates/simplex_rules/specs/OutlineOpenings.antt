-- The openings of the program that an outline and facts make open it.
--   AreLimited nodes facts   of each node some fact says how often a run leaves it at most
use Rattle.std.proofs.Common.{◌<◌, ◌⊎◌, ℕ, List, Contains}
use Rattle.flow_facts.specs.declared.fact.Fact.{Fact}
use Rattle.flow_facts.specs.declared.fact.Fact.TheVariants.{Dead, Total}

-- of each node some fact says how often a run leaves it at most
abbrev pub IsLimited : List Fact → ℕ → Type 0
IsLimited facts n = Contains facts (Dead n) ⊎ ((low : ℕ) × (high : ℕ) × Contains facts (Total n low high))

abbrev pub AreLimited : ℕ → List Fact → Type 0
AreLimited nodes facts = (n : ℕ) → n < nodes → IsLimited facts n
