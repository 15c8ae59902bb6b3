-- What texts of C promise.
--   SameButPlaces whole other     the units have the same tokens and trees, wherever the tokens stand
--   IsReadBack whole bytes        the bytes spell the unit again, but for places
--   IsReadable whole              each token can be printed, and the tokens are a spelling of the trees: a condition on the unit alone
--   EachSpelledUnitCanBePrinted   each token of a unit that some text spells can be printed
--   PrintedUnitsAreReadBack       what is printed of a unit that some text spells spells it again, but for places
--   SpelledWhereReadable          some text spells a unit, but for places, exactly where the unit is readable
use Rattle.std.specs.Prelude.{◌≡◌, ◌↔◌, ℕ, List, true}
use Rattle.std.specs.List.{list_all}
use Rattle.c_tokens.specs.Printed.{can_print, printed_text}
use Rattle.c_unit.specs.Units.{UnitTree}
use Rattle.c_unit.specs.Texts.{texts_of}
use Rattle.c_grammar.specs.Tokens.{Place}
use Rattle.c_grammar.specs.Units.{unit}
use Rattle.c_text.specs.SpellingLaws.{numbered_texts}
use Rattle.c_text.specs.Language.{full_room, SpellsUnit, IsSpelled}

-- the units have the same tokens and trees, wherever the tokens stand
pub record SameButPlaces (whole other : UnitTree) : Type 0 where
  pub texts : texts_of whole ≡ texts_of other
  pub externals : whole.externals ≡ other.externals

-- the bytes spell the unit again, but for places
pub record IsReadBack (whole : UnitTree) (bytes : List ℕ) : Type 0 where
  pub other : UnitTree
  pub spells : SpellsUnit bytes other
  pub same : SameButPlaces whole other

-- where the reading of tokens with these texts starts
abbrev pub start_of_texts : List (List ℕ) → Place
start_of_texts texts = record { ahead = numbered_texts 0 texts; room = full_room }

-- each token can be printed, and the tokens are a spelling of the trees
pub record IsReadable (whole : UnitTree) : Type 0 where
  pub printed : list_all can_print (texts_of whole) ≡ true
  pub rest : Place
  pub spells : unit.form.Spells (start_of_texts (texts_of whole)) whole.externals rest

abbrev pub EachSpelledUnitCanBePrinted : Type 0
EachSpelledUnitCanBePrinted = (whole : UnitTree) → IsSpelled whole → list_all can_print (texts_of whole) ≡ true

abbrev pub PrintedUnitsAreReadBack : Type 0
PrintedUnitsAreReadBack = (whole : UnitTree) → IsSpelled whole → IsReadBack whole (printed_text (texts_of whole))

abbrev pub SpelledWhereReadable : Type 0
SpelledWhereReadable = (whole : UnitTree) → ((bytes : List ℕ) × IsReadBack whole bytes) ↔ IsReadable whole
