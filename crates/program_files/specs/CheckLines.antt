-- Lines that tell why a program does not pass the checks, or has no graph.
--   number_or_dash number    the number, or a dash where there is none
--   names_text names         the names in quotes, with a space before each
--   check_line fault         the line of a program that does not pass
--   check_cause fault        and its cause
--   graph_line fault         the line of a program whose graph passes a limit
use Rattle.std.specs.Prelude.{ℕ, List, [], ◌∷◌, ◌++◌, Option, None, Some, codes, decimal}
use Rattle.std.specs.List.{flat_map}
use Rattle.alf_check.specs.declared.fault.CheckFault.{CheckFault}
use Rattle.alf_check.specs.declared.fault.CheckFault.TheVariants as checks
use Rattle.flow_graph.specs.declared.fault.GraphFault.{GraphFault}
use Rattle.flow_graph.specs.declared.fault.GraphFault.TheVariants as graphs
use Rattle.flow_graph.specs.Names.{quoted}
use Rattle.command_plans.specs.Outcome.{Cause, Source, Example}
use Rattle.program_files.specs.FaultLines.{limit_line}

-- the number, or a dash where there is none
abbrev pub number_or_dash : Option ℕ → List ℕ
number_or_dash None = codes "-"
number_or_dash (Some number) = decimal number

-- the names in quotes, with a space before each
abbrev pub names_text : List (List ℕ) → List ℕ
names_text names = flat_map (λ name. 32 ∷ quoted name) names

-- the name of what is unknown, stands twice, or is no root
abbrev pub name_line : List ℕ → List ℕ → List ℕ
name_line words name = words ++ (quoted name ++ 10 ∷ [])

abbrev pub size_line : List ℕ → Option ℕ → List ℕ
size_line name number = codes "fault 22 size " ++ (quoted name ++ (32 ∷ (number_or_dash number ++ 10 ∷ [])))

-- the names of the functions on a cycle of calls
abbrev pub names_line : List ℕ → List (List ℕ) → List ℕ
names_line words names = words ++ (names_text names ++ 10 ∷ [])

-- the line of a program that does not pass; want of memory has none
abbrev pub check_line : CheckFault → Option (List ℕ)
check_line (checks.UnknownName name) = Some (name_line (codes "fault 20 unknown ") name)
check_line (checks.DuplicateName name) = Some (name_line (codes "fault 21 duplicate ") name)
check_line (checks.Size name number) = Some (size_line name number)
check_line (checks.Recursion names) = Some (names_line (codes "fault 23 recursion") names.items)
check_line (checks.Root name) = Some (name_line (codes "fault 24 root ") name)
check_line checks.Memory = None

-- of several cycles the line gives one
abbrev pub check_cause : CheckFault → Cause
check_cause (checks.UnknownName name) = Source
check_cause (checks.DuplicateName name) = Source
check_cause (checks.Size name number) = Source
check_cause (checks.Recursion names) = Example
check_cause (checks.Root name) = Source
check_cause checks.Memory = Source

-- the line of a program whose graph passes a limit
abbrev pub graph_line : GraphFault → Option (List ℕ)
graph_line (graphs.Limit which count) = Some (limit_line which count)
graph_line graphs.Memory = None
