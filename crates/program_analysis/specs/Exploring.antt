-- What the private functions of the analysis pass on.
--   IsEnded pool o policy turns events   the pool is one in which the policy's run by these events ended along the outline, with no place left
--   IsWritableOf o report         where the nodes have names as reports spell them, some text spells the report
--   orderly_in    its numbers are at most its steps, and these at most the turns
use Rattle.std.specs.Prelude.{All}
use Rattle.std.proofs.Common.{◌≡◌, ℕ, List, []}
use Rattle.domain_core.specs.declared.event.Event.{Event}
use Rattle.domain_core.specs.Outlines.{Outlined}
use Rattle.flow_facts.specs.Reports.{Reported}
use Rattle.flow_facts.specs.Writable.{IsNodeName, IsWritable}
use Rattle.worklist_rules.specs.declared.policy.Policy.{Policy}
use Rattle.program_analysis.specs.Analyses.{PoolOf, IsExploration}

-- the pool is one in which the policy's run by these events ended along the outline, with no place left
pub record IsEnded (pool : PoolOf) (o : Outlined) (policy : Policy) (turns : ℕ) (events : List Event) : Type 0 where
  pub explored : IsExploration pool.stepper o policy turns events pool
  pub empty : pool.spots ≡ []

-- where the nodes have names as reports spell them, some text spells the report
abbrev pub IsWritableOf : Outlined → Reported → Type 0
IsWritableOf o report = All (λ row. IsNodeName row.name.items) o.nodes → IsWritable report
