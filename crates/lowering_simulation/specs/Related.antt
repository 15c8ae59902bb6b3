-- Histories of a lowered program and of the unit.
--   AreRunning fs m          each of these functions is running
--   Related place is_embedded fs m h   the histories agree but for stores to further frames, and these functions are running
--   OutputsAgree             at the end what is exported holds what the global integers of the unit hold
--   RunsHaveTheUnitsOutcome  where the leaves of all functions do what they say, the run has the outcome of the unit
use Rattle.std.specs.Prelude.{◌≡◌, ◌<◌, ℕ, Bool, true, List, [], ◌∷◌, map, length, ⊤}
use Rattle.std.specs.Option.{option_map}
use Rattle.alf_ops.specs.declared.history.RunEvent.{RunEvent}
use Rattle.alf_ops.specs.Histories.{is_running}
use Rattle.flow_graph.specs.Nodes.{first_node}
use Rattle.alf_runs.specs.Outcomes.{Outcome, exported}
use Rattle.alf_runs.specs.Steps.{At}
use Rattle.item_runs.specs.ItemRuns.{ItemProgram}
use Rattle.item_runs.specs.Following.{FollowEachOther}
use Rattle.c_unit.specs.Units.{UnitTree}
use Rattle.c_meaning.specs.Objects.{program_of, integers_of}
use Rattle.c_meaning.specs.Programs.{Cell, held, outcome_of, start_history, ending}
use Rattle.lowering_values.specs.Embedding.{embedded_value}
use Rattle.lowering_values.specs.EmbeddingLaws.{Agrees}
use Rattle.lowering_simulation.specs.Functions.{FunctionsDo}
use Rattle.lowering_simulation.specs.Outcomes.{IsSameOutcome}

abbrev pub AreRunning : List ℕ → List RunEvent → Type 0
AreRunning [] m = ⊤
AreRunning (f ∷ fs) m = (is_running m f ≡ true) × AreRunning fs m

pub record Related (place : ℕ → ℕ) (is_embedded : ℕ → Bool) (fs : List ℕ) (m h : List RunEvent) : Type 0 where
  pub agree : Agrees place is_embedded m h
  pub running : AreRunning fs m

abbrev pub OutputsAgree : UnitTree → ItemProgram → (ℕ → ℕ) → (ℕ → Bool) → Type 0
OutputsAgree unit of place is_embedded = (m h : List RunEvent) → Related place is_embedded [] m h
    → map (exported of.program m) of.program.exports ≡ map (option_map (embedded_value place)) (map (held (program_of unit) h) (integers_of unit))

abbrev pub RunsHaveTheUnitsOutcome : Type 0
RunsHaveTheUnitsOutcome = (unit : UnitTree) (of : ItemProgram) (place : ℕ → ℕ) (is_embedded : ℕ → Bool) (rank : ℕ → ℕ) (cells : List Cell) (m : List RunEvent)
    → FunctionsDo of (program_of unit) place (Related place is_embedded) rank
    → OutputsAgree unit of place is_embedded
    → of.program.root < length (program_of unit).functions
    → Related place is_embedded (of.program.root ∷ []) m (start_history unit of.program.root cells)
    → ((t : ℕ) (o : Outcome) → FollowEachOther of t m o)
    → IsSameOutcome of.program (At first_node m) place (λ n. outcome_of unit (ending unit of.program.root n cells))
