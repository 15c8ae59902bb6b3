-- What is told of the ends of a program's runs.
--   EachEnds checked graph rows ends   each point of a run of the program was seen in a state whose ends the memory stands for
--   EndsTold checked graph rows found  so it is where no place was left
use Rattle.std.specs.Prelude.{List, Option}
use Rattle.alf_check.specs.declared.rows.InputRow.{InputRow}
use Rattle.alf_check.specs.CheckedPrograms.{CheckedParts}
use Rattle.flow_graph.specs.Numbering.{GraphParts}
use Rattle.memory_model.specs.KeptMemories.{MemoryParts}
use Rattle.transfer_rules.specs.PartMachines.{part_machine}
use Rattle.watched_steps.specs.Watched.{EachPointIsSeen}
use Rattle.left_ends.specs.declared.ends.Ends.{Ends}
use Rattle.left_ends.specs.declared.ends.Ends.TheVariants as answers
use Rattle.left_ends.specs.Seen.{AreEnds, EndsIn}

-- each point of a run of the program was seen in a state whose ends the memory stands for
pub record EachEnds (checked : CheckedParts) (graph : GraphParts) (rows : List InputRow) (ends : Option MemoryParts) : Type 0 where
  pub are : AreEnds checked ends
  pub each : EachPointIsSeen (EndsIn checked graph ends) (part_machine checked graph rows)

-- so it is where no place was left
abbrev pub EndsTold : CheckedParts → GraphParts → List InputRow → Ends → Type 0
EndsTold checked graph rows (answers.All ends) = EachEnds checked graph rows ends
EndsTold checked graph rows (answers.Unbounded scope) = Unit {0}
