-- A report as one of the second form.
--   migrated report       the same report in the second form
use Rattle.flow_facts.specs.Reports.{Reported}

-- the same report in the second form
abbrev pub migrated : Reported → Reported
migrated report = record {
  form = 2;
  nodes = report.nodes;
  scopes = report.scopes;
  facts = report.facts;
  count_bound = report.count_bound;
  path_bound = report.path_bound;
  cert = report.cert;
}
