-- What every file keeps.
--   AnswersInputs bytes program answer   the answer to an inputs file, want of memory aside: its rows, or the fault
--   AnswersCosts bytes program answer    the answer to a costs file: its costs, or the fault
--   AnswersValues bytes n answer         the answer to a values file for n rows: its numbers, or the fault
--   AnswersTasks bytes answer            the answer to a tasks file: its tasks, or the fault
--   IsOne Answers                        two answers are one
--   InputsHaveOneAnswer, CostsHaveOneAnswer   for a program each file has one answer at most
--   ValuesHaveOneAnswer                  each values file has one answer at most
--   TasksHaveOneAnswer                   each tasks file has one answer at most
--   RowsKeepTheRules                     the rows that an inputs file means keep the rules that runs ask of rows
--   TasksAreTaskSets                     the tasks that a tasks file means are a task set
use Rattle.std.specs.Prelude.{◌≡◌, ℕ, ℤ, List, Result, Ok, Err}
use Rattle.alf_check.specs.declared.rows.InputRow.{InputRow}
use Rattle.alf_check.specs.CheckedPrograms.{NumberedProgram}
use Rattle.alf_check.specs.Inputs.{KeepInputs}
use Rattle.cost_table.specs.declared.fault.TableFault.{TableFault}
use Rattle.cost_table.specs.Inputs.{MeansInputs, RefusesInputs}
use Rattle.cost_table.specs.CostTables.{CostTable}
use Rattle.cost_table.specs.Costs.{MeansCosts, RefusesCosts}
use Rattle.cost_table.specs.RunValues.{MeansValues, RefusesValues}
use Rattle.cost_table.specs.declared.task_set.Task.{Task}
use Rattle.cost_table.specs.Tasks.{AreTasks}
use Rattle.cost_table.specs.TaskFiles.{MeansTasks, RefusesTasks}

-- the answer to an inputs file, want of memory aside
abbrev pub AnswersInputs : List ℕ → NumberedProgram → Result (List InputRow) TableFault → Type 0
AnswersInputs bytes program (Ok rows) = MeansInputs bytes program rows
AnswersInputs bytes program (Err fault) = RefusesInputs bytes program fault

-- the answer to a costs file, want of memory aside
abbrev pub AnswersCosts : List ℕ → NumberedProgram → Result CostTable TableFault → Type 0
AnswersCosts bytes program (Ok table) = MeansCosts bytes program table
AnswersCosts bytes program (Err fault) = RefusesCosts bytes program fault

-- the answer to a tasks file, want of memory aside
abbrev pub AnswersTasks : List ℕ → Result (List Task) TableFault → Type 0
AnswersTasks bytes (Ok tasks) = MeansTasks bytes tasks
AnswersTasks bytes (Err fault) = RefusesTasks bytes fault

-- the answer to a values file for so many rows, want of memory aside
abbrev pub AnswersValues : List ℕ → ℕ → Result (List ℤ) TableFault → Type 0
AnswersValues bytes n (Ok numbers) = MeansValues bytes n numbers
AnswersValues bytes n (Err fault) = RefusesValues bytes n fault

-- two answers are one
abbrev pub IsOne : {A : Type 0} → (Result A TableFault → Type 0) → Type 0
IsOne {A} Answers = (first second : Result A TableFault) → Answers first → Answers second → first ≡ second

-- for a program each file has one answer at most
abbrev pub InputsHaveOneAnswer : Type 0
InputsHaveOneAnswer = (bytes : List ℕ) (program : NumberedProgram) → IsOne (AnswersInputs bytes program)

abbrev pub CostsHaveOneAnswer : Type 0
CostsHaveOneAnswer = (bytes : List ℕ) (program : NumberedProgram) → IsOne (AnswersCosts bytes program)

-- each values file has one answer at most
abbrev pub ValuesHaveOneAnswer : Type 0
ValuesHaveOneAnswer = (bytes : List ℕ) (n : ℕ) → IsOne (AnswersValues bytes n)

-- each tasks file has one answer at most
abbrev pub TasksHaveOneAnswer : Type 0
TasksHaveOneAnswer = (bytes : List ℕ) → IsOne (AnswersTasks bytes)

-- the rows that an inputs file means for a program keep the rules that runs ask of rows
abbrev pub RowsKeepTheRules : Type 0
RowsKeepTheRules = (bytes : List ℕ) (program : NumberedProgram) (rows : List InputRow) → MeansInputs bytes program rows → KeepInputs program rows

-- the tasks that a tasks file means are a task set
abbrev pub TasksAreTaskSets : Type 0
TasksAreTaskSets = (bytes : List ℕ) (tasks : List Task) → MeansTasks bytes tasks → AreTasks tasks
