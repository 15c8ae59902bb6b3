-- Outcomes of a unit and of the program that it is lowered to.
--   embedded_outcome place o    the outcome of the unit as one of the program, where object o lies in frame `place o`; none where turns are used up
--   IsSameOutcome               the unit has an outcome with some number of turns exactly where the run is over with this outcome
use Rattle.std.specs.Prelude.{◌≡◌, ◌↔◌, ℕ, map, Option, Some, None}
use Rattle.std.specs.Option.{option_map}
use Rattle.alf_check.specs.CheckedPrograms.{NumberedProgram}
use Rattle.alf_runs.specs.Outcomes as runs
use Rattle.alf_runs.specs.Steps.{Moment, Over}
use Rattle.alf_runs.specs.Runs.{after, IsLonger, NeverEnds}
use Rattle.c_meaning.specs.Programs.{ProgramOutcome, Ended, Stopped, Unfinished}
use Rattle.lowering_values.specs.Embedding.{embedded_value}

abbrev pub embedded_outcome : (ℕ → ℕ) → ProgramOutcome → Option runs.Outcome
embedded_outcome place (Ended v globals) = Some (runs.Ended (record { returned = option_map (embedded_value place) v; globals = map (option_map (embedded_value place)) globals }))
embedded_outcome place (Stopped fault) = Some (runs.Faulted fault)
embedded_outcome place Unfinished = None

-- the run is over with this outcome after some number of steps
pub record IsOver (program : NumberedProgram) (start : Moment) (o : runs.Outcome) : Type 0 where
  pub steps : ℕ
  pub over : after program steps start ≡ Over o

-- `given n` is the outcome of the unit where each loop makes at most n turns at each of its executions
pub record IsSameOutcome (program : NumberedProgram) (start : Moment) (place : ℕ → ℕ)
    (given : ℕ → ProgramOutcome) : Type 0 where
  -- an outcome of the unit is one of the run
  pub comes : (n : ℕ) (o : runs.Outcome) → embedded_outcome place (given n) ≡ Some o → IsOver program start o
  -- an outcome of the run is one of the unit, in as many turns as steps
  pub only : (t : ℕ) (o : runs.Outcome) → after program t start ≡ Over o → embedded_outcome place (given t) ≡ Some o
  -- where n turns are used up the run has more than n nodes
  pub goes_on : (n : ℕ) → given n ≡ Unfinished → IsLonger program start n
  -- turns are used up for every number exactly where the run never ends
  pub never : ((n : ℕ) → given n ≡ Unfinished) ↔ NeverEnds program start
