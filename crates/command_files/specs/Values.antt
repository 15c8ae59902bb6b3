-- The file of values that a command reads.
--   IsValuesLine bytes n outcome, ValuesMean bytes n meaning   the n numbers of a values file, or the line of its fault
--   values_in n file                the file is read, and its numbers; without a file they are those of a file with none
--   AreValues file files n values   the told file has these numbers
use Rattle.std.specs.Prelude.{◌≡◌, ℕ, ℤ, List, Result, Ok, Err, Option, None, Some, codes}
use Rattle.flow_base.specs.Outside.{Files}
use Rattle.cost_table.specs.declared.fault.TableFault.{TableFault}
use Rattle.cost_table.specs.RunValues.{MeansValues, RefusesValues}
use Rattle.command_plans.specs.declared.reading.Role.TheVariants.{Values}
use Rattle.command_plans.specs.Outcome.{Outcome, Source}
use Rattle.command_plans.specs.Work.{Work, reads, judged, ◌>>=◌}
use Rattle.program_files.specs.Programs.{most_bytes_of_a_file, too_long}
use Rattle.answer_texts.specs.TableLines.{table_line}

-- the line tells what is wrong with the values
pub record IsValuesLine (bytes : List ℕ) (n : ℕ) (outcome : Outcome) : Type 0 where
  pub fault : TableFault
  pub refuses : RefusesValues bytes n fault
  pub line : table_line (codes "values") fault ≡ Some outcome.text
  pub cause : outcome.cause ≡ Source

-- the n numbers of a values file, or the line of its fault
abbrev pub ValuesMean : List ℕ → ℕ → Result (List ℤ) Outcome → Type 0
ValuesMean bytes n (Ok values) = MeansValues bytes n values
ValuesMean bytes n (Err outcome) = IsValuesLine bytes n outcome

-- the file is read, and its numbers
unfoldable pub values_told : ℕ → List ℕ → Work (List ℤ)
values_told n file = do
  bytes ← reads Values file most_bytes_of_a_file too_long
  judged (ValuesMean bytes n)

-- a file without numbers
abbrev pub no_values : List ℕ
no_values = codes "values = []\n"

-- without a file the numbers are those of a file without any
abbrev pub values_in : ℕ → Option (List ℕ) → Work (List ℤ)
values_in n None = judged (ValuesMean no_values n)
values_in n (Some file) = values_told n file

-- the told file has these numbers; without a file there are none
abbrev pub AreValues : Option (List ℕ) → Files → ℕ → List ℤ → Type 0
AreValues None files n values = MeansValues no_values n values
AreValues (Some file) files n values = (bytes : List ℕ) × (files file ≡ Some bytes) × MeansValues bytes n values
