-- A run of two nodes, and reports that it is held against.
--   passed, costs             the nodes that it goes through, and what each node costs
--   unmet, met                lines of which the second and the third are not met, and such that all are met
--   told facts count path     a report of two nodes and one scope with these facts and bounds
--   ranges, values            three cells from 0 to 9, and values of which the second and the third lie outside
use Rattle.std.specs.Prelude.{ℕ, ℤ, pos, List, [], ◌∷◌, Some, None}
use Rattle.alf_check.specs.declared.rows.InputRow.{InputRow}
use Rattle.domain_core.specs.declared.scope_kind.ScopeKind.TheVariants.{Call}
use Rattle.flow_facts.specs.declared.fact.Fact.{Fact}
use Rattle.flow_facts.specs.declared.fact.Fact.TheVariants.{Dead, Total}
use Rattle.flow_facts.specs.declared.report.BoundWord.TheVariants.{Least}
use Rattle.flow_facts.specs.Reports.{NamedNode, Reported}

abbrev pub passed : List ℕ
passed = 0 ∷ 1 ∷ []

abbrev pub costs : List ℕ
costs = 1 ∷ 2 ∷ []

abbrev pub unmet : List Fact
unmet = Total 0 1 1 ∷ Total 1 2 2 ∷ Dead 1 ∷ []

abbrev pub met : List Fact
met = Total 0 1 1 ∷ Total 1 1 1 ∷ []

abbrev named : NamedNode
named = record { scope = 0; cost = 1; name = [] }

abbrev pub told : List Fact → ℕ → ℕ → Reported
told facts count path = record {
  form = 1;
  nodes = named ∷ named ∷ [];
  scopes = record { parent = None; header = 0; kind = Call } ∷ [];
  facts = facts;
  count_bound = count;
  path_bound = Some (path, Least);
  cert = None;
}

abbrev range : InputRow
range = record { frame = 0; offset = 0; size = 32; low = pos 0; high = pos 9 }

abbrev pub ranges : List InputRow
ranges = range ∷ range ∷ range ∷ []

abbrev pub values : List ℤ
values = pos 5 ∷ pos 10 ∷ pos 11 ∷ []
