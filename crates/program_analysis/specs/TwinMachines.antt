-- The machines of one program, whatever parts it has in the code, answer alike.
--   IsProgramOf program checked   the parts are seen as the program
--   IsTwin checked other t u      memories of the two that hold the same
use Rattle.std.proofs.Common.{◌≡◌}
use Rattle.alf_check.specs.declared.rows.InputRow.{InputRow}
use Rattle.alf_check.specs.CheckedPrograms.{CheckedParts, NumberedProgram, seen}
use Rattle.flow_graph.specs.Numbering.{GraphParts}
use Rattle.memory_model.specs.KeptMemories.{MemoryParts}

-- the parts are seen as the program
abbrev pub IsProgramOf : NumberedProgram → CheckedParts → Type 0
IsProgramOf program checked = seen checked ≡ program

-- memories of the two that hold the same
pub record IsTwin (checked other : CheckedParts) (t u : MemoryParts) : Type 0 where
  pub first : t.checked ≡ checked
  pub second : u.checked ≡ other
  pub running : t.running ≡ u.running
  pub frames : t.frames ≡ u.frames
