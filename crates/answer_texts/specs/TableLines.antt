-- Lines that tell why a file of inputs, of costs, of values or of tasks is refused.
--   entry_line words role place   the line of an entry, between these words and its place
--   table_line role fault         the line of a file that is refused; the role is its word
use Rattle.std.specs.Prelude.{ℕ, List, [], ◌∷◌, ◌++◌, Option, None, Some, codes, decimal}
use Rattle.cost_table.specs.declared.fault.TableFault.{TableFault}
use Rattle.cost_table.specs.declared.fault.TableFault.TheVariants as faults
use Rattle.program_files.specs.CheckLines.{number_or_dash}
use Rattle.program_files.specs.FaultLines.{limit_line}

-- the line of an entry
abbrev pub entry_line : List ℕ → List ℕ → List ℕ → List ℕ
entry_line words role place = words ++ (role ++ (32 ∷ (place ++ 10 ∷ [])))

-- the line of a file that is refused; want of memory has none
abbrev pub table_line : List ℕ → TableFault → Option (List ℕ)
table_line role faults.Toml = Some (codes "fault 70 toml " ++ (role ++ 10 ∷ []))
table_line role (faults.Key place) = Some (entry_line (codes "fault 71 key ") role (number_or_dash place))
table_line role (faults.Range place) = Some (entry_line (codes "fault 72 range ") role (decimal place))
table_line role (faults.NoSuchCell place) = Some (entry_line (codes "fault 73 cell ") role (decimal place))
table_line role (faults.Limit which count) = Some (limit_line which count)
table_line role faults.Memory = None
