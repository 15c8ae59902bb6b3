-- How a run ends.
--   Outputs                  the value that the root returned, if any, and for each exported frame in order its load or none
--   Outcome                  the outputs, or a fault; Lost is where no rule says how to go on, which never comes of a checked program
--   exported program history frame   what an exported frame holds as a whole, or none where its load would fault
--   outputs program value history    the outputs of a run that ends with this history
use Rattle.std.specs.Prelude.{ℕ, List, map, Option, slice_get}
use Rattle.std.specs.Option.{option_map_or}
use Rattle.std.specs.Result.{result_ok}
use Rattle.alf_ops.specs.declared.history.Value.{Value}
use Rattle.alf_ops.specs.declared.history.Value.TheVariants.{Ptr}
use Rattle.alf_ops.specs.declared.history.RunFault.{RunFault}
use Rattle.alf_ops.specs.declared.history.RunEvent.{RunEvent}
use Rattle.alf_ops.specs.Histories.{load}
use Rattle.alf_check.specs.declared.rows.FrameRow.{FrameRow}
use Rattle.alf_check.specs.CheckedPrograms.{NumberedProgram}
use Rattle.alf_check.specs.Shapes.{shapes_of}

-- the value that the root returned, if any, and for each exported frame in order its load or none
pub record Outputs : Type 0 where
  pub returned : Option Value
  pub globals : List (Option Value)

pub data Outcome : Type 0 where
  Ended : Outputs → Outcome
  Faulted : RunFault → Outcome
  Lost : Outcome

-- the size of a frame in bits
abbrev pub bits_at : NumberedProgram → ℕ → ℕ
bits_at program frame = option_map_or (λ (row : FrameRow). row.bits) (slice_get program.frames frame) 0

-- what an exported frame holds as a whole, or none where its load would fault
abbrev pub exported : NumberedProgram → List RunEvent → ℕ → Option Value
exported program history frame = result_ok (load (shapes_of program.frames) history (Ptr frame 0) (bits_at program frame))

-- the outputs of a run that ends with this history
abbrev pub outputs : NumberedProgram → Option Value → List RunEvent → Outputs
outputs program value history = record { returned = value; globals = map (exported program history) program.exports }
