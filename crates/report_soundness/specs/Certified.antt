-- Reports with a certificate.
--   told_certificate o facts events n   the events, with the multipliers of the path bound of the facts after n pivots at most
--   with_certificate report cert        the report with this certificate
--   printed_as certify report cert      so where a certificate is wanted, and else the report itself
use Rattle.std.specs.Prelude.{ℕ, Bool, true, false, List, Some}
use Rattle.domain_core.specs.declared.event.Event.{Event}
use Rattle.domain_core.specs.Outlines.{Outlined}
use Rattle.flow_facts.specs.declared.fact.Fact.{Fact}
use Rattle.flow_facts.specs.Reports.{Certificate, Reported}
use Rattle.path_lp.specs.Bounding.{told_duals}

-- the events, with the multipliers of the path bound of the facts after n pivots at most
abbrev pub told_certificate : Outlined → List Fact → List Event → ℕ → Certificate
told_certificate o facts events n = record { events = events; scale = (told_duals o facts n).0; multipliers = (told_duals o facts n).1 }

-- the report with this certificate
abbrev pub with_certificate : Reported → Certificate → Reported
with_certificate report cert = record {
  form = report.form;
  nodes = report.nodes;
  scopes = report.scopes;
  facts = report.facts;
  count_bound = report.count_bound;
  path_bound = report.path_bound;
  cert = Some cert;
}

-- so where a certificate is wanted, and else the report itself
abbrev pub printed_as : Bool → Reported → Certificate → Reported
printed_as true report cert = with_certificate report cert
printed_as false report cert = report
