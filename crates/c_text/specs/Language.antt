-- What a text means: the unit that it spells, or its first departure from the grammar.
--   start bytes                   where the reading of a text starts
--   words_of bytes                the tokens of a text, with their places
--   SpellsTrees bytes externals   the tokens of the bytes are a spelling of these trees
--   SpellsUnit bytes whole        the bytes are a spelling of the unit
--   IsSpelled whole               some text spells the unit
--   DepartsWith bytes fault       the bytes are no spelling, and this is where they leave the grammar first
--   Departure, placed bytes fault the fault as it is told: with the place in the text, and the text of the token
--   Means bytes meaning           the bytes spell the unit, or depart so
--   HasOneMeaning bytes           they have exactly one meaning
--   departure_of answer           the departure of an answer of `read`, or none where memory ran out
use Rattle.std.specs.Prelude.{◌≡◌, ℕ, List, [], map, Result, Ok, Err, Option, Some, None}
use Rattle.std.specs.Option.{unwrap_or}
use Rattle.std.specs.List.{slice_get}
use Rattle.flow_base.specs.declared.place.Place.{Place}
use Rattle.flow_base.specs.declared.place.Which.{Which}
use Rattle.c_tokens.specs.Tokens.{tokens_of}
use Rattle.flow_base.specs.Places.{place_after}
use Rattle.c_unit.specs.Tree.{ExternalTree}
use Rattle.c_unit.specs.Units.{Word, word_of, UnitTree}
use Rattle.c_grammar.specs.Tokens.{Fault, Room, most_functions, most_frames, most_elements, Syntax, Number, OutOfProfile, Limit}
use Rattle.c_grammar.specs.Tokens as grammar
use Rattle.c_grammar.specs.Units.{unit}
use Rattle.c_reader.specs.Reading.{numbered}
use Rattle.c_text.specs.declared.fault.CTextFault.{CTextFault}
use Rattle.c_text.specs.declared.fault.CTextFault.TheVariants as faults

-- nothing is counted yet
abbrev pub full_room : Room
full_room = record { functions = most_functions; frames = most_frames; elements = most_elements; names = [] }

-- where the reading of a text starts
abbrev pub start : List ℕ → grammar.Place
start bytes = record { ahead = numbered 0 (tokens_of bytes); room = full_room }

-- the tokens of a text, with their places
abbrev pub words_of : List ℕ → List Word
words_of bytes = map (word_of bytes) (tokens_of bytes)

-- the tokens of the bytes are a spelling of these trees
abbrev pub SpellsTrees : List ℕ → List ExternalTree → Type 0
SpellsTrees bytes externals = (rest : grammar.Place) × unit.form.Spells (start bytes) externals rest

-- the bytes are a spelling of the unit
pub record SpellsUnit (bytes : List ℕ) (whole : UnitTree) : Type 0 where
  pub words : whole.words ≡ words_of bytes
  pub trees : SpellsTrees bytes whole.externals

-- some text spells the unit
abbrev pub IsSpelled : UnitTree → Type 0
IsSpelled whole = (bytes : List ℕ) × SpellsUnit bytes whole

-- the bytes are no spelling, and this is where they leave the grammar first
abbrev pub DepartsWith : List ℕ → Fault → Type 0
DepartsWith bytes fault = unit.form.Departs (start bytes) fault

-- ---- departures, as they are told

pub data Departure : Type 0 where
  -- the token that begins here does not fit, or the text ends here
  SyntaxAt : Place → Departure
  -- the number that begins here is too large
  NumberAt : Place → Departure
  -- this token, which begins here, is outside the profile
  OutsideAt : Place → List ℕ → Departure
  -- this quantity comes to this number, which is above its limit
  LimitOf : Which → ℕ → Departure

-- the end of a text
abbrev pub end_of : List ℕ → Word
end_of bytes = record { text = []; place = place_after bytes }

-- the token of this number
abbrev pub word_at : List ℕ → ℕ → Word
word_at bytes n = unwrap_or (slice_get (words_of bytes) n) (end_of bytes)

abbrev pub word_told : List ℕ → Option ℕ → Word
word_told bytes None = end_of bytes
word_told bytes (Some n) = word_at bytes n

-- the fault with its place in the text
abbrev pub placed : List ℕ → Fault → Departure
placed bytes (Syntax n) = SyntaxAt (word_told bytes n).place
placed bytes (Number n) = NumberAt (word_at bytes n).place
placed bytes (OutOfProfile n) = OutsideAt (word_at bytes n).place (word_at bytes n).text
placed bytes (Limit which count) = LimitOf which count

-- ---- meanings

-- the bytes spell the unit, or depart so
abbrev pub Means : List ℕ → Result UnitTree Departure → Type 0
Means bytes (Ok whole) = SpellsUnit bytes whole
Means bytes (Err departure) = (fault : Fault) × DepartsWith bytes fault × (departure ≡ placed bytes fault)

-- exactly one meaning
pub record HasOneMeaning (bytes : List ℕ) : Type 0 where
  pub meaning : Result UnitTree Departure
  pub means : Means bytes meaning
  pub only : (other : Result UnitTree Departure) → Means bytes other → meaning ≡ other

-- the departure that `read` tells
abbrev pub departure_of : CTextFault → Option Departure
departure_of (faults.Syntax place) = Some (SyntaxAt place)
departure_of (faults.Number place) = Some (NumberAt place)
departure_of (faults.OutOfProfile place word) = Some (OutsideAt place word)
departure_of (faults.Limit which count) = Some (LimitOf which count)
departure_of faults.Memory = None
