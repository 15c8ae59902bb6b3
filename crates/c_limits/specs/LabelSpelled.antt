-- Units that some text spells.
--   SpelledUnitsHaveFewLabels   a function of such a unit allocates at most four labels for each token of the text
use Rattle.std.specs.Prelude.{◌≡◌, ◌≤◌, ◌*◌, ℕ, Some, length, slice_get}
use Rattle.c_unit.specs.Units.{UnitTree}
use Rattle.c_text.specs.Language.{IsSpelled}
use Rattle.c_meaning.specs.Objects.{Function, functions_of}
use Rattle.c_lowered.specs.Statements.{labels_in_all}

abbrev pub SpelledUnitsHaveFewLabels : Type 0
SpelledUnitsHaveFewLabels = (unit : UnitTree) → IsSpelled unit → (f : ℕ) (function : Function)
    → slice_get (functions_of unit) f ≡ Some function
    → labels_in_all function.body ≤ 4 * length unit.words
