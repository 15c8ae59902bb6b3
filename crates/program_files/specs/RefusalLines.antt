-- Lines that tell why a unit of C does not pass the checks.
--   refusal_line refusal    the line of what is told of the unit
--   refusal_cause refusal   its cause
--   refusal_told refusal    both
--   refusal_of fault        what the code tells, unless memory ran out
use Rattle.std.specs.Prelude.{ℕ, List, [], ◌∷◌, ◌++◌, Option, None, Some, codes}
use Rattle.c_rules.specs.Programs.{Refusal, UnknownName, DuplicateName, MistypedAt, Recursion, NoRoot}
use Rattle.c_check.specs.declared.fault.CFault.{CFault}
use Rattle.c_check.specs.declared.fault.CFault.TheVariants as faults
use Rattle.command_plans.specs.Outcome.{Cause, Source, Example, Outcome}
use Rattle.program_files.specs.FaultLines.{place_text}
use Rattle.program_files.specs.CheckLines.{name_line, names_line}

abbrev pub refusal_line : Refusal → List ℕ
refusal_line (UnknownName name) = name_line (codes "fault 94 name ") name
refusal_line (DuplicateName name) = name_line (codes "fault 95 duplicate ") name
refusal_line (MistypedAt place) = codes "fault 96 type " ++ (place_text place ++ 10 ∷ [])
refusal_line (Recursion names) = names_line (codes "fault 97 recursion") names
refusal_line (NoRoot name) = name_line (codes "fault 98 root ") name

-- of several cycles the line gives one
abbrev pub refusal_cause : Refusal → Cause
refusal_cause (UnknownName name) = Source
refusal_cause (DuplicateName name) = Source
refusal_cause (MistypedAt place) = Source
refusal_cause (Recursion names) = Example
refusal_cause (NoRoot name) = Source

abbrev pub refusal_told : Refusal → Outcome
refusal_told refusal = record { cause = refusal_cause refusal; text = refusal_line refusal }

-- what the code tells
abbrev pub refusal_of : CFault → Option Refusal
refusal_of (faults.UnknownName name) = Some (UnknownName name)
refusal_of (faults.Duplicate name) = Some (DuplicateName name)
refusal_of (faults.Mistyped place) = Some (MistypedAt place)
refusal_of (faults.Recursion names) = Some (Recursion names.items)
refusal_of (faults.Root name) = Some (NoRoot name)
refusal_of faults.Memory = None
