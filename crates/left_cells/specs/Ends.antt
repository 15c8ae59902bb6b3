-- The memory that runs leave.
--   AreOfOne program statements         the statements are some of one function of the program
--   IsAfter checked statements parts later   the history is what the statements make of some history that the memory stands for
--   StandsIn rows left history          there is a memory, and it stands for the history
--   IsLike old new                      a memory of the same program, in which the same functions run
use Rattle.std.specs.Prelude.{◌≡◌, ℕ, List, All, Option, Ok, IsSomeAnd}
use Rattle.alf_ops.specs.declared.history.RunEvent.{RunEvent}
use Rattle.alf_ops.specs.declared.history.FrameShape.{FrameShape}
use Rattle.alf_ops.specs.Histories.{IsSoundHistory}
use Rattle.alf_check.specs.CheckedPrograms.{NumberedStatement, NumberedProgram, CheckedParts}
use Rattle.alf_check.specs.Kept.{KeepsStatement}
use Rattle.alf_runs.specs.Statements.{after_statements}
use Rattle.memory_rules.specs.Memories.{MemCovers}
use Rattle.memory_rules.specs.AbstractSets.{abstract_sets}
use Rattle.memory_model.specs.KeptMemories.{MemoryParts, memory_in, rows_of, IsMemory}

-- the statements are some of one function of the program
pub record AreOfOne (program : NumberedProgram) (statements : List NumberedStatement) : Type 0 where
  pub function : ℕ
  pub keep : All (KeepsStatement program.frames function) statements

-- the history is what the statements make of some history that the memory stands for
pub record IsAfter (checked : CheckedParts) (statements : List NumberedStatement) (parts : MemoryParts)
    (later : List RunEvent) : Type 0 where
  pub before : List RunEvent
  pub sound : IsSoundHistory before
  pub covers : MemCovers abstract_sets (rows_of checked) (memory_in parts) before
  pub does : after_statements (rows_of checked) statements (Ok before) ≡ Ok later

-- there is a memory, and it stands for the history
abbrev pub StandsIn : List FrameShape → Option MemoryParts → List RunEvent → Type 0
StandsIn rows left history = IsSomeAnd left (λ parts. IsSoundHistory history × MemCovers abstract_sets rows (memory_in parts) history)

-- a memory of the same program, in which the same functions run
pub record IsLike (old new : MemoryParts) : Type 0 where
  pub checked : new.checked ≡ old.checked
  pub is : IsMemory new
  pub runs : (memory_in new).runs ≡ (memory_in old).runs
