-- An outline, what was collected along it, and reports that it speaks against.
--   looped name      nodes 0, 1 and 2, of cost 1 each; scope 1 is a loop of the last two, and node 1 is its header
--   spot             a place at node 2
--   once             each node was visited once, and node 2 faulted by a division
--   totals m, three m   the `total` lines of the nodes, the last one with m visits, alone and with the alarm of node 2
--   told bound facts a report of three nodes and two scopes with this count bound and these facts
use Rattle.std.specs.Prelude.{ℕ, List, [], ◌∷◌, Some, None, true}
use Rattle.std.specs.Global.{Vec}
use Rattle.alf_ops.specs.declared.history.RunFault.TheVariants.{Divide}
use Rattle.domain_core.specs.FaultSets.{no_faults, with_fault}
use Rattle.domain_core.specs.Outlines.{Outlined}
use Rattle.domain_core.specs.declared.outline.NodeRow.{NodeRow}
use Rattle.domain_core.specs.declared.scope_kind.ScopeKind.TheVariants as kinds
use Rattle.flow_facts.specs.declared.fact.Fact.{Fact}
use Rattle.flow_facts.specs.declared.fact.Fact.TheVariants.{Total, Alarm}
use Rattle.flow_facts.specs.Reports.{NamedNode, Reported}
use Rattle.recorder_rules.specs.TallyRules.{Ledger}
use Rattle.worklist_rules.specs.Pools.{Spot}
use Rattle.report_soundness.specs.ReportTold.{Found}

abbrev node : Vec ℕ → ℕ → NodeRow
node name scope = record { scope = scope; rank = 0; cost = 1; name = name }

abbrev pub looped : Vec ℕ → Outlined
looped name = record {
  edges = (0, 1) ∷ (1, 2) ∷ (2, 1) ∷ [];
  nodes = node name 0 ∷ node name 1 ∷ node name 1 ∷ [];
  scopes = record { parent = None; header = 0; kind = kinds.Call } ∷ record { parent = Some 0; header = 1; kind = kinds.Loop } ∷ [];
  notes = [];
}

abbrev pub spot : Spot ℕ ℕ
spot = record { node = 2; position = []; state = 0; recorder = 0 }

abbrev none : Ledger
none = record { tally = record { scopes = []; nodes = [] }; spreads = [] }

abbrev pub once : Found
once = record {
  books = record {
    totals = Some (1, 1) ∷ Some (1, 1) ∷ Some (1, 1) ∷ [];
    loops = none;
    counts = none;
    pairs = record { owned = []; pairs = [] };
  };
  alarms = no_faults ∷ no_faults ∷ with_fault no_faults Divide ∷ [];
  stepped = true ∷ true ∷ true ∷ [];
}

-- without the alarm, and with it
abbrev pub totals : ℕ → List Fact
totals m = Total 0 1 1 ∷ Total 1 1 1 ∷ Total 2 m m ∷ []

abbrev pub three : ℕ → List Fact
three m = Total 0 1 1 ∷ Total 1 1 1 ∷ Total 2 m m ∷ Alarm 2 Divide ∷ []

abbrev named : NamedNode
named = record { scope = 0; cost = 1; name = [] }

abbrev pub told : ℕ → List Fact → Reported
told bound facts = record {
  form = 2;
  nodes = named ∷ named ∷ named ∷ [];
  scopes = record { parent = None; header = 0; kind = kinds.Call } ∷ record { parent = Some 0; header = 1; kind = kinds.Loop } ∷ [];
  facts = facts;
  count_bound = bound;
  path_bound = None;
  cert = None;
}
