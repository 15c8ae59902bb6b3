-- The column counts of a run that meets the facts are a feasible point worth the run's cost.
use Rattle.std.proofs.Common.{ℕ, Bool, List, All}
use Rattle.domain_core.specs.Outlines.{Shape, IsOutline}
use Rattle.flow_facts.specs.declared.fact.Fact.{Fact}
use Rattle.flow_facts.specs.Facts.{Meets}
use Rattle.ipet_rows.specs.Uses.{IsEnded}
use Rattle.ipet_rows.specs.Shaped.{FitOutline}

-- the run meets all facts
abbrev pub MeetFacts : Shape → List ℕ → List Fact → Type 0
MeetFacts o trace facts = All (λ f. Meets o trace f) facts
