-- Laws of lines.
--   AreLines o found facts   these are the facts that it tells, each once, in the order of lines
use Rattle.std.specs.Prelude.{◌↔◌, List, Contains, AllPairs}
use Rattle.domain_core.specs.Outlines.{Outlined}
use Rattle.flow_facts.specs.declared.fact.Fact.{Fact}
use Rattle.flow_facts.specs.Writable.{IsBefore}
use Rattle.report_soundness.specs.ReportTold.{Found}
use Rattle.report_soundness.specs.Lines.{IsLine}

-- these are the facts that it tells, each once, in the order of lines
pub record AreLines (o : Outlined) (found : Found) (facts : List Fact) : Type 0 where
  pub each : (fact : Fact) → Contains facts fact ↔ IsLine o found fact
  pub ascend : AllPairs IsBefore facts
