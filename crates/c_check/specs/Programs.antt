-- What passes the checks, and what is told otherwise.
--   ProgramParts            a unit and its root
--   PassesChecks unit root  the unit passes the checks, and has a function of this name
--   Keeps program           what every program keeps: the checks pass, and some text spells its unit
--   IsTold unit root fault  what the fault says is what the checks refuse the unit by; a want of memory says nothing
use Rattle.std.specs.Prelude.{ℕ, List, ⊤}
use Rattle.c_unit.specs.declared.unit.CUnit.{CUnit}
use Rattle.c_unit.specs.Units.{UnitTree, unit_of}
use Rattle.c_rules.specs.Programs as checks
use Rattle.c_rules.specs.Programs.{IsProgram, Refuses}
use Rattle.c_text.specs.Language.{IsSpelled}
use Rattle.c_check.specs.declared.fault.CFault.{CFault}
use Rattle.c_check.specs.declared.fault.CFault.TheVariants as faults

pub record ProgramParts : Type 0 where
  pub unit : CUnit
  pub root : List ℕ

-- the unit passes the checks and has a function of this name, as some ranks of its functions show
pub record PassesChecks (unit : UnitTree) (root : List ℕ) : Type 0 where
  pub ranks : List ℕ
  pub is_program : IsProgram unit root ranks

-- the checks pass, and some text spells the unit
pub record Keeps (program : ProgramParts) : Type 0 where
  pub passes : PassesChecks (unit_of program.unit) program.root
  pub spelled : IsSpelled (unit_of program.unit)

abbrev pub IsTold : UnitTree → List ℕ → CFault → Type 0
IsTold unit root (faults.UnknownName name) = Refuses unit root (checks.UnknownName name)
IsTold unit root (faults.Duplicate name) = Refuses unit root (checks.DuplicateName name)
IsTold unit root (faults.Mistyped place) = Refuses unit root (checks.MistypedAt place)
IsTold unit root (faults.Recursion names) = Refuses unit root (checks.Recursion names.items)
IsTold unit root (faults.Root name) = Refuses unit root (checks.NoRoot name)
IsTold unit root faults.Memory = ⊤
