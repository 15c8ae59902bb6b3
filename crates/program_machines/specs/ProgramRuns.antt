-- Runs of a program, and runs of the system of its machine. A point is the number of a node and a history.
--   IsAliveTo run k                       the run is not over before its moment k
--   IsProgramRun program graph rows run   the run of the program from some start inside the ranges, point by point until it is over
--   EndsWith system n c outcome           a run of the system is over at the point, with this outcome
--   IsOverAs program graph rows start last n history   the run of the program from the start is over after these nodes, as the system's is
--   ProgramRunsAreSystemRuns, SystemRunsAreProgramRuns, OverIsOver, EndIsOver   the laws
use Rattle.std.specs.Prelude.{◌≡◌, ◌<◌, ℕ, suc, List, ◌∷◌, reverse, Option, None, Some}
use Rattle.alf_ops.specs.declared.history.RunEvent.{RunEvent}
use Rattle.alf_check.specs.declared.rows.InputRow.{InputRow}
use Rattle.alf_check.specs.CheckedPrograms.{CheckedParts, NumberedProgram, seen}
use Rattle.alf_check.specs.Kept.{IsKept}
use Rattle.flow_graph.specs.Numbering.{GraphParts, IsGraph}
use Rattle.alf_runs.specs.Outcomes.{Outcome, Ended, Faulted, Lost}
use Rattle.alf_runs.specs.Steps.{Moment}
use Rattle.alf_runs.specs.Starts.{IsStart}
use Rattle.alf_interp.specs.Traces.{Runs}
use Rattle.domain_core.specs.Machines.{System}
use Rattle.domain_core.specs.SystemRuns.{IsRun, trace_to}
use Rattle.transfer_rules.specs.Points.{run_system, points}
use Rattle.transfer_rules.specs.PartMachines.{part_machine}

-- the run is not over before its moment k
abbrev pub IsAliveTo : {C : Type 0} → (ℕ → Option (ℕ × C)) → ℕ → Type 0
IsAliveTo {C} run k = (j : ℕ) → j < k → (p : ℕ × C) × (run j ≡ Some p)

-- the run of the program from some start inside the ranges, point by point until it is over
pub record IsProgramRun (program : NumberedProgram) (graph : GraphParts) (rows : List InputRow)
    (run : ℕ → Option (ℕ × List RunEvent)) : Type 0 where
  pub start : Moment
  pub inside : IsStart program rows start
  pub same : (k : ℕ) → IsAliveTo run k → run k ≡ points program graph start k

-- a run of the system is over at the point, with this outcome
abbrev pub EndsWith : {C : Type 0} → System C → ℕ → C → Outcome → Type 0
EndsWith system n c (Ended outputs) = system.ends n c
EndsWith system n c (Faulted fault) = system.fails n c fault
EndsWith system n c Lost = ⊥

-- the run of the program from the start is over after the nodes up to this moment, with the outcome of the system's run
pub record IsOverAs (program : NumberedProgram) (graph : GraphParts) (rows : List InputRow) (start : Moment)
    (last n : ℕ) (history : List RunEvent) : Type 0 where
  pub outcome : Outcome
  pub ends : EndsWith (run_system program graph rows) n history outcome
  pub runs : Runs program graph.nodes start (reverse (n ∷ trace_to (points program graph start) last)) outcome

-- ---- the laws

-- each run of the program from a start inside the ranges is a run of the machine's system
abbrev pub ProgramRunsAreSystemRuns : Type 0
ProgramRunsAreSystemRuns = (checked : CheckedParts) (graph : GraphParts) (rows : List InputRow) (start : Moment)
    → IsKept (seen checked) → IsGraph (seen checked) graph → IsStart (seen checked) rows start
    → IsRun (part_machine checked graph rows).system (points (seen checked) graph start)

-- and each run of the system is one of the program
abbrev pub SystemRunsAreProgramRuns : Type 0
SystemRunsAreProgramRuns = (checked : CheckedParts) (graph : GraphParts) (rows : List InputRow) (run : ℕ → Option (ℕ × List RunEvent))
    → IsKept (seen checked) → IsGraph (seen checked) graph → IsRun (part_machine checked graph rows).system run
    → IsProgramRun (seen checked) graph rows run

-- where the system's run is over, the program's has ended, with the same nodes and the same outcome
abbrev pub OverIsOver : Type 0
OverIsOver = (checked : CheckedParts) (graph : GraphParts) (rows : List InputRow) (start : Moment) (last n : ℕ) (history : List RunEvent)
    → IsKept (seen checked) → IsGraph (seen checked) graph → IsStart (seen checked) rows start
    → points (seen checked) graph start last ≡ Some (n, history) → points (seen checked) graph start (suc last) ≡ None
    → IsOverAs (seen checked) graph rows start last n history

-- the point after which a run is over
pub record IsLastPoint {C : Type 0} (run : ℕ → Option (ℕ × C)) : Type 0 where
  pub last : ℕ
  pub node : ℕ
  pub value : C
  pub here : run last ≡ Some (node, value)
  pub over : run (suc last) ≡ None

-- and where the program's run ends, the system's is over
abbrev pub EndIsOver : Type 0
EndIsOver = (checked : CheckedParts) (graph : GraphParts) (rows : List InputRow) (start : Moment) (trace : List ℕ) (outcome : Outcome)
    → IsKept (seen checked) → IsGraph (seen checked) graph → IsStart (seen checked) rows start → Runs (seen checked) graph.nodes start trace outcome
    → IsLastPoint (points (seen checked) graph start)
