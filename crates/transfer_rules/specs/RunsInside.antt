-- The histories of runs of a program lie inside its frames.
--   InsideAt rows moment     at a node the history does
--   SoundAt moment           at a node each store is of a value of its size
--   StorePromises            what is promised of the stores of starts and calls
use Rattle.std.proofs.Common.{List}
use Rattle.alf_ops.specs.declared.history.FrameShape.{FrameShape}
use Rattle.alf_ops.specs.Histories.{IsSoundHistory}
use Rattle.alf_check.specs.CheckedPrograms.{NumberedProgram}
use Rattle.alf_check.specs.Kept.{IsKept}
use Rattle.alf_runs.specs.Steps.{Moment, At, Over}
use Rattle.alf_runs.specs.StoreLaws.{EntersByStores, ArgumentsFit, StartsByStores}
use Rattle.alf_runs.specs.PlaceLaws.{InputsAreWords}
use Rattle.transfer_rules.specs.Inside.{IsInside}

-- at a node the history lies inside
abbrev pub InsideAt : List FrameShape → Moment → Type 0
InsideAt rows (At node history) = IsInside rows history
InsideAt rows (Over outcome) = Unit {0}

-- at a node each store is of a value of its size
abbrev pub SoundAt : Moment → Type 0
SoundAt (At node history) = IsSoundHistory history
SoundAt (Over outcome) = Unit {0}

-- what is promised of the stores of starts and calls
pub record StorePromises : Type 0 where
  pub calls : EntersByStores
  pub arguments : ArgumentsFit
  pub starts : StartsByStores
  pub inputs : InputsAreWords
