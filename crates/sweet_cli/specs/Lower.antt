-- `lower FILE`: the canonical text of the program of ALF that a file of C is lowered to.
--   lowering given                  the order of work
--   IsLoweredText given files text  the promise: the text spells what the unit that the file spells is lowered to, which does what the unit does
--   lower given                     the task
use Rattle.std.specs.Prelude.{ℕ, List, ◌∷◌, []}
use Rattle.flow_base.specs.Outside.{Files}
use Rattle.alf_text.specs.Language.{SpellsProgram}
use Rattle.alf_text.specs.Canonical.{canonical_text}
use Rattle.alf_check.specs.Checking.{Passes}
use Rattle.c_unit.specs.Units.{UnitTree}
use Rattle.c_lowered.specs.Programs.{lowered}
use Rattle.c_lower.specs.Outcomes.{HaveUnitsOutcomes}
use Rattle.command_plans.specs.Work.{Work, done, ◌>>=◌}
use Rattle.program_files.specs.Told.{IsToldUnit}
use Rattle.program_files.specs.Units.{checked_unit_in}
use Rattle.sweet_cli.specs.Words.{LowerWords}
use Rattle.sweet_cli.specs.Task.{Task}

unfoldable pub lowering : LowerWords → Work (List ℕ)
lowering given = do
  unit ← checked_unit_in given.file given.root
  done (canonical_text (lowered unit))

-- the file spells a unit that passes the checks; the text spells the program that it is lowered to, which passes the
-- checks of ALF; and each run of each checked program of it, from inputs inside their ranges, has the outcome of the
-- unit from the cells that hold them
pub record IsLoweredText (given : LowerWords) (files : Files) (text : List ℕ) : Type 0 where
  pub unit : UnitTree
  pub unit_told : IsToldUnit given.file given.root files unit
  pub again : SpellsProgram text (lowered unit)
  pub passes : Passes (lowered unit) given.root
  pub outcomes : HaveUnitsOutcomes unit given.root

abbrev pub lower : LowerWords → Task
lower given = record { work = lowering given; names = given.file ∷ []; Promise = IsLoweredText given }
