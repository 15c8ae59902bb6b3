-- The frames of a lowered program lie where the objects of its unit have them.
use Rattle.std.specs.Prelude.{slice_get}
use Rattle.std.specs.Option.{option_map_or}
use Rattle.std.proofs.Common.{◌≡◌, ℕ, List, Option, Some, sym, ap, ◌∙◌, subst}
use Rattle.std.proofs.lemmas.Option.{slice_get-get_or}
use Rattle.alf_program.specs.Tree as alf
use Rattle.alf_program.specs.Tree.{WholeProgram}
use Rattle.alf_check.specs.CheckedPrograms.{NumberedProgram}
use Rattle.alf_check.specs.Numbers.{Numbers, first_frame, numbers_in}
use Rattle.alf_check.specs.Numbered.{numbered}
use Rattle.item_runs.specs.CheckedItems.{numbers_of, no_numbers}
use Rattle.c_unit.specs.Units.{UnitTree}
use Rattle.c_meaning.specs.Objects.{Function, program_of, functions_of, no_function}
use Rattle.c_lowered.specs.Programs.{lowered_function, lowered}
use Rattle.lowering_layout.specs.Spelled.{HasNames}
use Rattle.lowering_values.specs.Frames.{IsNaming}
use Rattle.lowering_values.specs.Agreement.{IsLaidOut}
use Rattle.lowering_layout.specs.FrameLaws.{FramesHavePlaces, FunctionsAreLowered, NamesAreNumbered, ProgramsAreLaidOut}
use Rattle.lowering_simulation.specs.Correct.{IsLowered, FramesArePlaced}

-- the program is the numbered one
is_numbered : (unit : UnitTree) (name : List ℕ) (program : NumberedProgram) → IsLowered unit name program
    → program ≡ numbered (lowered unit) name
is_numbered unit name program is =
    is.kept.checked.numbers
    ∙ ap (λ (whole : WholeProgram). numbered whole is.kept.checked.root) is.whole
    ∙ ap (λ (root : List ℕ). numbered (lowered unit) root) is.root

numbers_are : (unit : UnitTree) (f : ℕ) (func : alf.Function) → slice_get (lowered unit).funcs f ≡ Some func
    → numbers_of (lowered unit) f ≡ numbers_in (lowered unit) (first_frame (lowered unit) f) func
numbers_are unit f func at = ap (λ (x : Option alf.Function). option_map_or (numbers_in (lowered unit) (first_frame (lowered unit) f)) x no_numbers) at

module _ (places : FramesHavePlaces) (functions : FunctionsAreLowered) (names_are : NamesAreNumbered) (laid : ProgramsAreLaidOut) where
  pub placed : (unit : UnitTree) (name : List ℕ) (program : NumberedProgram) → HasNames (program_of unit)
      → IsLowered unit name program → FramesArePlaced unit program
  placed unit name program names is = record {
    frames = places unit names;
    naming = λ f low. one f (slice_get-get_or (functions_of unit) f no_function low);
    laid = subst (λ (p : NumberedProgram). IsLaidOut unit p) (sym (is_numbered unit name program is)) (laid unit name names);
  }
    where
      one : (f : ℕ) {function : Function} → slice_get (functions_of unit) f ≡ Some function
          → IsNaming unit f (numbers_of (lowered unit) f).frame
      one f {function} at =
          subst (λ (numbers : Numbers). IsNaming unit f numbers.frame) (sym (numbers_are unit f (lowered_function (program_of unit) f function) (functions unit f function at))) (names_are unit f function names at)
