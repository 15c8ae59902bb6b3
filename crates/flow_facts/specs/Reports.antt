-- Reports as lists, without where they lie in memory.
--   NamedNode     what a report says of a node
--   Certificate   events, what multipliers are divided by, and multipliers
--   Reported      a report
--   node_of, certificate_of, reported   what the code's values stand for
use Rattle.std.specs.Prelude.{ℕ, ℤ, List, map, Option}
use Rattle.std.specs.Option.{option_map}
use Rattle.domain_core.specs.declared.event.Event.{Event}
use Rattle.domain_core.specs.declared.outline.ScopeRow.{ScopeRow}
use Rattle.flow_facts.specs.declared.fact.Fact.{Fact}
use Rattle.flow_facts.specs.declared.certificate.Cert.{Cert}
use Rattle.flow_facts.specs.declared.report.NodeLine.{NodeLine}
use Rattle.flow_facts.specs.declared.report.BoundWord.{BoundWord}
use Rattle.flow_facts.specs.declared.report.Report.{Report}

-- what a report says of a node
pub record NamedNode : Type 0 where
  pub scope : ℕ
  pub cost : ℕ
  pub name : List ℕ

pub record Certificate : Type 0 where
  pub events : List Event
  pub scale : ℤ
  pub multipliers : List ℤ

pub record Reported : Type 0 where
  pub form : ℕ
  pub nodes : List NamedNode
  pub scopes : List ScopeRow
  pub facts : List Fact
  pub count_bound : ℕ
  pub path_bound : Option (ℕ × BoundWord)
  pub cert : Option Certificate

-- ---- what the code's values stand for

abbrev pub node_of : NodeLine → NamedNode
node_of line = record { scope = line.scope; cost = line.cost; name = line.name.items }

abbrev pub certificate_of : Cert → Certificate
certificate_of cert = record { events = cert.events.items; scale = cert.scale; multipliers = cert.multipliers.items }

abbrev pub reported : Report → Reported
reported report = record {
  form = report.form;
  nodes = map node_of report.nodes.items;
  scopes = report.scopes.items;
  facts = report.facts.items;
  count_bound = report.count_bound;
  path_bound = report.path_bound;
  cert = option_map certificate_of report.cert;
}
