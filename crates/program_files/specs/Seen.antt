-- What the code's values stand for.
--   expanded_of value            a program and its graph
use Rattle.alf_check.specs.CheckedPrograms.{seen}
use Rattle.program_files.specs.declared.expanding.Expanded.{Expanded as Value}
use Rattle.program_files.specs.Expanding.{Expanded}

-- a program and its graph
abbrev pub expanded_of : Value → Expanded
expanded_of value = record { program = seen value.checked; graph = value.graph }
