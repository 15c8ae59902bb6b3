-- The concrete system of a program: the points that its runs pass, from inputs inside given ranges. A point
-- is the number of a
-- node and a history.
--   moment_at graph n history          where a run stands at the point
--   run_system program graph rows      where runs start, their next points, their ends and their faults
--   point_of graph moment              the point where a run stands; none once it is over
--   points program graph moment t      the point of a run after t steps
--   IsOneWay system n c                a point has one next point, or it is an end, or it has one fault
use Rattle.std.specs.Prelude.{◌≡◌, ◌<◌, ℕ, List, length, Option, Some, None}
use Rattle.alf_ops.specs.declared.history.RunEvent.{RunEvent}
use Rattle.alf_ops.specs.declared.history.RunFault.{RunFault}
use Rattle.alf_check.specs.declared.rows.InputRow.{InputRow}
use Rattle.alf_check.specs.CheckedPrograms.{NumberedProgram}
use Rattle.flow_graph.specs.Nodes.{first_node}
use Rattle.flow_graph.specs.Numbering.{GraphParts}
use Rattle.flow_graph.specs.Expansions.{node_number}
use Rattle.alf_runs.specs.Outcomes.{Outputs, Ended, Faulted}
use Rattle.alf_runs.specs.Steps.{Moment, At, Over, step}
use Rattle.alf_runs.specs.Runs.{after}
use Rattle.alf_runs.specs.Starts.{IsStart}
use Rattle.domain_core.specs.Machines.{System}
use Rattle.transfer_rules.specs.NodeNumbers.{number_of}

-- where a run stands at the point
abbrev pub moment_at : GraphParts → ℕ → List RunEvent → Moment
moment_at graph n history = At (node_number graph n) history

-- the run goes on from point to point
pub record GoesOn (program : NumberedProgram) (graph : GraphParts) (n : ℕ) (before : List RunEvent) (k : ℕ)
    (later : List RunEvent) : Type 0 where
  pub from : n < length graph.nodes
  pub to : k < length graph.nodes
  pub steps : step program (moment_at graph n before) ≡ moment_at graph k later

-- the run ends at the point, with some outputs
pub record EndsAt (program : NumberedProgram) (graph : GraphParts) (n : ℕ) (history : List RunEvent) : Type 0 where
  pub from : n < length graph.nodes
  pub outputs : Outputs
  pub steps : step program (moment_at graph n history) ≡ Over (Ended outputs)

-- the run ends at the point with this fault
pub record FailsAt (program : NumberedProgram) (graph : GraphParts) (n : ℕ) (history : List RunEvent)
    (fault : RunFault) : Type 0 where
  pub from : n < length graph.nodes
  pub steps : step program (moment_at graph n history) ≡ Over (Faulted fault)

-- the points of the runs of a program, from inputs inside the ranges of the rows
abbrev pub run_system : NumberedProgram → GraphParts → List InputRow → System (List RunEvent)
run_system program graph rows = record {
  starts = λ history. IsStart program rows (At first_node history);
  goes = GoesOn program graph;
  ends = EndsAt program graph;
  fails = FailsAt program graph;
}

-- ---- runs, point by point

-- the point where a run stands; none once it is over
abbrev pub point_of : GraphParts → Moment → Option (ℕ × List RunEvent)
point_of graph (At node history) = Some (number_of graph.nodes node, history)
point_of graph (Over outcome) = None

-- the point of a run after t steps
abbrev pub points : NumberedProgram → GraphParts → Moment → ℕ → Option (ℕ × List RunEvent)
points program graph moment t = point_of graph (after program t moment)

-- a point has one next point, or it is an end, or it has one fault
pub record IsOneWay {C : Type 0} (system : System C) (n : ℕ) (c : C) : Type 0 where
  pub next : (k j : ℕ) (d e : C) → system.goes n c k d → system.goes n c j e → (k ≡ j) × (d ≡ e)
  pub fault : (kind other : RunFault) → system.fails n c kind → system.fails n c other → kind ≡ other
  pub goes_or_ends : (k : ℕ) (d : C) → system.goes n c k d → system.ends n c → ⊥
  pub goes_or_fails : (k : ℕ) (d : C) (kind : RunFault) → system.goes n c k d → system.fails n c kind → ⊥
  pub ends_or_fails : (kind : RunFault) → system.ends n c → system.fails n c kind → ⊥
