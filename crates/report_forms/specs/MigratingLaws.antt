-- Laws of migrating.
--   migrated_writable     some text spells it where some text spells the given one
use Rattle.std.proofs.Common.{ℕ, inr, refl}
use Rattle.std.proofs.lemmas.List.Elements.{All-weaker}
use Rattle.flow_facts.specs.declared.fact.Fact.{Fact}
use Rattle.flow_facts.specs.declared.fact.Fact.TheVariants.{Loop, Count, Dead, Total, Pair, Alarm}
use Rattle.flow_facts.specs.Reports.{Reported}
use Rattle.flow_facts.specs.Writable.{FactIsWritable, IsWritable}
use Rattle.report_forms.specs.Migrating.{migrated}

fact_writable : (form : ℕ) (fact : Fact) → FactIsWritable form fact → FactIsWritable 2 fact
fact_writable form (Loop s low high) is = is
fact_writable form (Count s n low high) is = (refl, is.1, is.2, is.3, is.4)
fact_writable form (Dead n) is = is
fact_writable form (Total n low high) is = is
fact_writable form (Pair s a b) is = is
fact_writable form (Alarm n fault) is = is

pub migrated_writable : (report : Reported) → IsWritable report → IsWritable (migrated report)
migrated_writable report is = record {
  form = inr refl;
  few_nodes = is.few_nodes;
  nodes = is.nodes;
  few_scopes = is.few_scopes;
  scopes = is.scopes;
  facts = All-weaker (FactIsWritable report.form) (FactIsWritable 2) (fact_writable report.form) report.facts is.facts;
  ascends = is.ascends;
  count_bound = is.count_bound;
  path_bound = is.path_bound;
  certificate = is.certificate;
}
