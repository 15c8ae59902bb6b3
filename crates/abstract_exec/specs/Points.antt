-- Merge points as a list of flags.
--   IsLeft o n k                    some scope holds the node n and not the node k
--   AreMergePoints o policy flags   for each node its flag tells whether it is a merge point
use Rattle.std.specs.Prelude.{◌≡◌, ◌<◌, ◌↔◌, ℕ, Bool, true, false, List, length, slice_index_or}
use Rattle.domain_core.specs.Outlines.{Shape, Holds}
use Rattle.worklist_rules.specs.declared.policy.Policy.{Policy}
use Rattle.worklist_rules.specs.Policies.{IsMergePoint}

-- some scope holds the node n and not the node k
abbrev pub IsLeft : Shape → ℕ → ℕ → Type 0
IsLeft o n k = (t : ℕ) × Holds o t n × (Holds o t k → ⊥)

-- for each node its flag tells whether it is a merge point
pub record AreMergePoints (o : Shape) (policy : Policy) (flags : List Bool) : Type 0 where
  pub one_each : length flags ≡ length o.own
  pub told : (n : ℕ) → n < length o.own → (slice_index_or flags n false ≡ true) ↔ IsMergePoint o policy n
