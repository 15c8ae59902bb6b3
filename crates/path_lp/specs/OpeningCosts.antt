-- What the sum over the openings is at most.
--   AreWithin most facts   no `total` line tells more of a node than this number of it
--   worth_of_visits o most each node's cost times its number, added up
use Rattle.std.proofs.Common.{◌≤◌, ◌*◌, ℕ, ℤ, pos, List, length, Contains}
use Rattle.std.specs.Prelude.{slice_index}
use Rattle.domain_core.specs.Outlines.{Outlined}
use Rattle.flow_facts.specs.declared.fact.Fact.{Fact}
use Rattle.flow_facts.specs.declared.fact.Fact.TheVariants.{Total}
use Rattle.ipet_rows.specs.Sums.{total}
use Rattle.dual_check.specs.Openings.{costs_of}

-- no `total` line tells more of a node than this number of it
abbrev pub AreWithin : (ℕ → ℕ) → List Fact → Type 0
AreWithin most facts = (n low high : ℕ) → Contains facts (Total n low high) → high ≤ most n

-- each node's cost times its number, added up
abbrev pub worth_of_visits : Outlined → (ℕ → ℕ) → ℤ
worth_of_visits o most = total (length o.nodes) (λ n. pos (slice_index (costs_of o) n * most n))
