-- `print FILE`: the canonical text of the program.
--   printing file                   the order of work
--   IsSameProgram file files text   the promise: the text spells the program that the file spells
--   print file                      the task
use Rattle.std.specs.Prelude.{◌≡◌, ℕ, List, Some, ◌∷◌, []}
use Rattle.flow_base.specs.Outside.{Files}
use Rattle.alf_program.specs.Tree.{WholeProgram}
use Rattle.alf_text.specs.Language.{SpellsProgram}
use Rattle.alf_text.specs.Canonical.{canonical_text}
use Rattle.command_plans.specs.Work.{Work, done, ◌>>=◌}
use Rattle.program_files.specs.Programs.{program_in}
use Rattle.sweet_cli.specs.Task.{Task}

unfoldable pub printing : List ℕ → Work (List ℕ)
printing file = do
  whole ← program_in file
  done (canonical_text whole)

-- the text spells the program that the file spells
pub record IsSameProgram (file : List ℕ) (files : Files) (text : List ℕ) : Type 0 where
  pub bytes : List ℕ
  pub whole : WholeProgram
  pub told : files file ≡ Some bytes
  pub spelled : SpellsProgram bytes whole
  pub again : SpellsProgram text whole

abbrev pub print : List ℕ → Task
print file = record { work = printing file; names = file ∷ []; Promise = IsSameProgram file }
