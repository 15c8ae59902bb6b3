-- What told files say of the program that is read.
use Rattle.std.proofs.Common.{◌≡◌, ℕ, List, [], ◌∷◌, Result, Ok, Err, Option, IfOk, sym, ap, subst, ◌∙◌}
use Rattle.flow_base.specs.Outside.{Files}
use Rattle.alf_program.specs.Tree.{WholeProgram}
use Rattle.alf_check.specs.CheckedPrograms.{CheckedParts, NumberedProgram, seen}
use Rattle.alf_check.specs.Numbered.{numbered}
use Rattle.c_unit.specs.Units.{UnitTree, unit_of}
use Rattle.c_text.specs.Language.{SpellsUnit}
use Rattle.c_check.specs.Programs.{PassesChecks, ProgramParts}
use Rattle.c_lowered.specs.Programs.{lowered}
use Rattle.c_lower.specs.Outcomes.{HasUnitsOutcomes}
use Rattle.command_plans.specs.Log.{Log}
use Rattle.command_plans.specs.declared.stop.Stop.{Stop}
use Rattle.command_plans.specs.Readings.{IsMadeOf, one_made, widened}
use Rattle.command_plans.specs.Works.{Judges}
use Rattle.program_files.specs.Programs.{program_in, CheckMeans}
use Rattle.program_files.specs.Units.{unit_in, UnitCheckMeans}
use Rattle.program_files.specs.Told.{IsProgramOfText, IsToldUnit, IsProgramOfUnit}

-- ---- what was read

-- a program of ALF
told_text : (file root : List ℕ) (told : Option Files) (before : Log) (whole : WholeProgram) (program : NumberedProgram) (after : Log) → (program_in file).steps.Gives told before whole after
    → CheckMeans whole root (Ok program) → IsMadeOf told before after (file ∷ []) (λ files. IsProgramOfText file root files program)
unfolding program_in
told_text file root told before whole program after (bytes, log, read, (spelled, still)) checks =
    one_made told before after file bytes (λ files. IsProgramOfText file root files program) (still ∙ read.0) read.2
    (λ files is. record { bytes = bytes; whole = whole; told = is; spelled = spelled.means; passes = checks.0; program_is = checks.1 })

pub told_numbered : (file root : List ℕ) (told : Option Files) (before : Log) (whole : WholeProgram) (after : Log) (result : Result CheckedParts Stop)
    → (program_in file).steps.Gives told before whole after → Judges (CheckMeans whole root) seen result
    → IfOk result (λ checked. IsMadeOf told before after (file ∷ []) (λ files. IsProgramOfText file root files (seen checked)))
told_numbered file root told before whole after (Ok checked) g judged = told_text file root told before whole (seen checked) after g judged.means
told_numbered file root told before whole after (Err stop) g judged = tt

-- a unit of C
told_unit : (file root : List ℕ) (told : Option Files) (before : Log) (read unit : UnitTree) (after : Log)
    → (unit_in file).steps.Gives told before read after
    → UnitCheckMeans read root (Ok unit) → IsMadeOf told before after (file ∷ []) (λ files. IsToldUnit file root files unit)
unfolding unit_in
told_unit file root told before read unit after (bytes, log, got, (spelled, still)) checks =
    one_made told before after file bytes (λ files. IsToldUnit file root files unit) (still ∙ got.0) got.2
    (λ files is. record {
      bytes = bytes;
      told = is;
      spelled = subst (SpellsUnit bytes) (sym checks.1) spelled.means;
      passes = subst (λ (u : UnitTree). PassesChecks u root) (sym checks.1) checks.0;
    })

pub told_checked : (file root : List ℕ) (told : Option Files) (before : Log) (unit : UnitTree) (after : Log) (result : Result ProgramParts Stop)
    → (unit_in file).steps.Gives told before unit after → Judges (UnitCheckMeans unit root) (λ (p : ProgramParts). unit_of p.unit) result
    → IfOk result (λ program. IsMadeOf told before after (file ∷ []) (λ files. IsToldUnit file root files (unit_of program.unit)))
told_checked file root told before unit after (Ok program) g judged = told_unit file root told before unit (unit_of program.unit) after g judged.means
told_checked file root told before unit after (Err stop) g judged = tt

-- ---- lowering

-- told files say what a unit was lowered to
pub told_lowered : (file root name : List ℕ) (told : Option Files) (before after : Log) (unit : UnitTree) (checked : CheckedParts)
    → IsMadeOf told before after (file ∷ []) (λ files. IsToldUnit file root files unit)
    → name ≡ root → seen checked ≡ numbered (lowered unit) name → HasUnitsOutcomes unit name (seen checked)
    → IsMadeOf told before after (file ∷ []) (λ files. IsProgramOfUnit file root files (seen checked))
told_lowered file root name told before after unit checked h named is outcomes =
    widened told before after (file ∷ []) (λ files. IsToldUnit file root files unit) (λ files. IsProgramOfUnit file root files (seen checked))
    (λ files of. record {
      unit = unit;
      unit_told = of;
      program_is = is ∙ ap (numbered (lowered unit)) named;
      outcomes = subst (λ (r : List ℕ). HasUnitsOutcomes unit r (seen checked)) named outcomes;
    }) h
