-- `print FILE` of a file of C: the canonical text of the unit.
--   printing_c file              the order of work
--   IsSameUnit file files text   the promise: the text spells the unit that the file spells, but for places
--   print_c file                 the task
use Rattle.std.specs.Prelude.{◌≡◌, ℕ, List, Some, ◌∷◌, []}
use Rattle.flow_base.specs.Outside.{Files}
use Rattle.c_tokens.specs.Printed.{printed_text}
use Rattle.c_unit.specs.Units.{UnitTree}
use Rattle.c_unit.specs.Texts.{texts_of}
use Rattle.c_text.specs.Language.{SpellsUnit}
use Rattle.c_text.specs.Laws.{IsReadBack}
use Rattle.command_plans.specs.Work.{Work, done, ◌>>=◌}
use Rattle.program_files.specs.Units.{unit_in}
use Rattle.sweet_cli.specs.Task.{Task}

-- the tokens as they were spelled, with one space between two of them and a line feed at the end
abbrev pub unit_text : UnitTree → List ℕ
unit_text whole = printed_text (texts_of whole)

unfoldable pub printing_c : List ℕ → Work (List ℕ)
printing_c file = do
  whole ← unit_in file
  done (unit_text whole)

-- the text spells the unit that the file spells, but for places
pub record IsSameUnit (file : List ℕ) (files : Files) (text : List ℕ) : Type 0 where
  pub bytes : List ℕ
  pub whole : UnitTree
  pub told : files file ≡ Some bytes
  pub spelled : SpellsUnit bytes whole
  pub again : IsReadBack whole text

abbrev pub print_c : List ℕ → Task
print_c file = record { work = printing_c file; names = file ∷ []; Promise = IsSameUnit file }
