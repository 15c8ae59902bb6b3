-- A report in either form.
--   small form    the report: a node, a scope and a line, both bounds, and a certificate
use Rattle.std.specs.Prelude.{ℕ, [], ◌∷◌, Some, None, codes, pos, negsuc}
use Rattle.domain_core.specs.declared.event.Event.TheVariants.{Step}
use Rattle.domain_core.specs.declared.scope_kind.ScopeKind.TheVariants as kinds
use Rattle.flow_facts.specs.declared.fact.Fact.TheVariants.{Total}
use Rattle.flow_facts.specs.declared.report.BoundWord.TheVariants as words
use Rattle.flow_facts.specs.Reports.{Reported}

abbrev pub small : ℕ → Reported
small form = record {
  form = form;
  nodes = record { scope = 0; cost = 2; name = codes "n" } ∷ [];
  scopes = record { parent = None; header = 0; kind = kinds.Call } ∷ [];
  facts = Total 0 1 1 ∷ [];
  count_bound = 7;
  path_bound = Some (5, words.Stopped);
  cert = Some (record { events = Step 0 ∷ []; scale = pos 3; multipliers = negsuc 0 ∷ [] });
}
