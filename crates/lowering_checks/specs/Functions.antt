-- What is known of each function of a unit.
--   ItemsStand unit k function   each item of the lowered function stands
use Rattle.std.proofs.Common.{◌≡◌, ◌<◌, ◌≤◌, ◌^◌, ℕ, List, map, length, slice_get, Some}
use Rattle.std.specs.List.{sum_by}
use Rattle.alf_program.specs.Writable.{most_functions, most_frames, most_bytes_of_frames, frame_bytes, frames_of}
use Rattle.c_unit.specs.Units.{UnitTree}
use Rattle.c_rules.specs.UnitsStand.{UnitStands}
use Rattle.c_meaning.specs.Objects.{Object, Function, program_of, parameter_object, all_locals_in, objects_of, functions_of}
use Rattle.c_lowered.specs.Statements.{labels_in_all}
use Rattle.c_lowered.specs.Programs.{lowered}
use Rattle.c_rules.specs.SpelledExpressions.{InStatements}
use Rattle.lowering_layout.specs.Lists.{EachOf}
use Rattle.lowering_layout.specs.Spelled.{HasNames}
use Rattle.lowering_checks.specs.Effects.{Shallow}

-- ---- one function

-- what is asked of a unit besides the checks
pub record IsMeasured (unit : UnitTree) (names : HasNames (program_of unit)) : Type 0 where
  pub small : EachOf (λ (o : Object). o.bits ≤ 262144) (objects_of unit)
  pub shallow : EachOf (λ (function : Function). InStatements Shallow Shallow function.body) (functions_of unit)
  pub few_labels : EachOf (λ (function : Function). labels_in_all function.body < 2 ^ 64) (functions_of unit)
  pub few_functions : length (functions_of unit) ≤ most_functions
  pub few_frames : length (frames_of (lowered unit)) ≤ most_frames
  pub few_bytes : sum_by frame_bytes (frames_of (lowered unit)) ≤ most_bytes_of_frames

module _ (unit : UnitTree) (names : HasNames (program_of unit)) (stands : UnitStands unit) (measured : IsMeasured unit names) where
  module _ (k : ℕ) (function : Function) (at : slice_get (functions_of unit) k ≡ Some function) where
    params : List Object
    params = map (parameter_object k) function.parameters

    locals : List Object
    locals = all_locals_in unit.words k function.body
