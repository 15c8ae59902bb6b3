-- The files of inputs and of costs that a command reads.
--   InputsMean bytes program meaning  the rows of an inputs file, or the line of its fault
--   inputs_in program file            the file is read, and its rows; without a file there are none
--   CostsMean bytes program meaning   the costs of a costs file, or the line of its fault
--   costs_in program file             the file is read, and its costs; without a file every block costs 1
--   tables_in program inputs costs    both
--   AreInputs file files program rows, AreCosts file files program costs   the told files have these rows, these costs
use Rattle.std.specs.Prelude.{◌≡◌, ℕ, List, [], Result, Ok, Err, Option, None, Some, codes}
use Rattle.flow_base.specs.Outside.{Files}
use Rattle.alf_check.specs.CheckedPrograms.{NumberedProgram}
use Rattle.alf_check.specs.declared.rows.InputRow.{InputRow}
use Rattle.cost_table.specs.declared.fault.TableFault.{TableFault}
use Rattle.cost_table.specs.CostTables.{CostTable, one_each}
use Rattle.cost_table.specs.Costs.{MeansCosts, RefusesCosts}
use Rattle.cost_table.specs.Inputs.{MeansInputs, RefusesInputs}
use Rattle.command_plans.specs.declared.reading.Role.TheVariants.{Inputs, Costs}
use Rattle.command_plans.specs.Outcome.{Outcome, Source}
use Rattle.command_plans.specs.Work.{Work, reads, judged, done, ◌>>=◌}
use Rattle.program_files.specs.Programs.{most_bytes_of_a_file, too_long}
use Rattle.answer_texts.specs.TableLines.{table_line}

-- ---- inputs

-- the line tells what is wrong with the inputs
pub record IsInputsLine (bytes : List ℕ) (program : NumberedProgram) (outcome : Outcome) : Type 0 where
  pub fault : TableFault
  pub refuses : RefusesInputs bytes program fault
  pub line : table_line (codes "inputs") fault ≡ Some outcome.text
  pub cause : outcome.cause ≡ Source

-- the rows of an inputs file, or the line of its fault
abbrev pub InputsMean : List ℕ → NumberedProgram → Result (List InputRow) Outcome → Type 0
InputsMean bytes program (Ok rows) = MeansInputs bytes program rows
InputsMean bytes program (Err outcome) = IsInputsLine bytes program outcome

-- the file is read, and its rows
unfoldable pub inputs_told : NumberedProgram → List ℕ → Work (List InputRow)
inputs_told program file = do
  bytes ← reads Inputs file most_bytes_of_a_file too_long
  judged (InputsMean bytes program)

-- without a file there are no rows
abbrev pub inputs_in : NumberedProgram → Option (List ℕ) → Work (List InputRow)
inputs_in program None = done []
inputs_in program (Some file) = inputs_told program file

-- ---- costs

-- the line tells what is wrong with the costs
pub record IsCostsLine (bytes : List ℕ) (program : NumberedProgram) (outcome : Outcome) : Type 0 where
  pub fault : TableFault
  pub refuses : RefusesCosts bytes program fault
  pub line : table_line (codes "costs") fault ≡ Some outcome.text
  pub cause : outcome.cause ≡ Source

-- the costs of a costs file, or the line of its fault
abbrev pub CostsMean : List ℕ → NumberedProgram → Result CostTable Outcome → Type 0
CostsMean bytes program (Ok costs) = MeansCosts bytes program costs
CostsMean bytes program (Err outcome) = IsCostsLine bytes program outcome

-- the file is read, and its costs
unfoldable pub costs_told : NumberedProgram → List ℕ → Work CostTable
costs_told program file = do
  bytes ← reads Costs file most_bytes_of_a_file too_long
  judged (CostsMean bytes program)

-- without a file every block costs 1
abbrev pub costs_in : NumberedProgram → Option (List ℕ) → Work CostTable
costs_in program None = done one_each
costs_in program (Some file) = costs_told program file

-- ---- both

-- the rows and the costs
pub record Tables : Type 0 where
  pub rows : List InputRow
  pub costs : CostTable

-- the files are read, the inputs first
unfoldable pub tables_in : NumberedProgram → Option (List ℕ) → Option (List ℕ) → Work Tables
tables_in program inputs costs = do
  rows ← inputs_in program inputs
  spent ← costs_in program costs
  done (record { rows = rows; costs = spent })

-- ---- told files

-- the told file has these rows; without a file there are none
abbrev pub AreInputs : Option (List ℕ) → Files → NumberedProgram → List InputRow → Type 0
AreInputs None files program rows = rows ≡ []
AreInputs (Some file) files program rows = (bytes : List ℕ) × (files file ≡ Some bytes) × MeansInputs bytes program rows

-- the told file has these costs; without a file every block costs 1
abbrev pub AreCosts : Option (List ℕ) → Files → NumberedProgram → CostTable → Type 0
AreCosts None files program costs = costs ≡ one_each
AreCosts (Some file) files program costs = (bytes : List ℕ) × (files file ≡ Some bytes) × MeansCosts bytes program costs
