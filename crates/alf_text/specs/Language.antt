-- What a text means: the program that it spells, or its first departure from the grammar.
--   start bytes                   where the reading of a text starts
--   SpellsProgram bytes whole     the bytes are a spelling of the program
--   IsSpelled whole               some text spells the program
--   DepartsWith bytes fault       the bytes are no spelling, and this is where they leave the grammar first
--   Departure, placed bytes fault the fault as it is told: with the place in the text
--   Means bytes meaning           the bytes spell the program, or depart so
--   HasOneMeaning bytes           they have exactly one meaning
--   departure_of answer           the departure of an answer of `read`
use Rattle.std.specs.Prelude.{◌≡◌, ℕ, List, Result, Ok, Err, Option}
use Rattle.flow_base.specs.declared.place.Place.{Place}
use Rattle.flow_base.specs.Places.{place_of}
use Rattle.alf_tokens.specs.Tokens.{tokens_of}
use Rattle.alf_reader.specs.declared.fault.FaultAt.{FaultAt}
use Rattle.alf_program.specs.Tree.{WholeProgram}
use Rattle.alf_reader.specs.Grammar.{DepartureAt, Fault, most_functions, most_frames, most_bytes_of_frames}
use Rattle.alf_reader.specs.Grammar as grammar
use Rattle.alf_reader.specs.Reading.{departure_in}
use Rattle.alf_text.specs.Grammar.{program}
pub use Rattle.alf_reader.specs.Grammar.{Syntax, Number, OutOfProfile, Limit}

-- where the reading of a text starts: nothing is counted yet
abbrev pub start : List ℕ → grammar.Place
start bytes = record { ahead = tokens_of bytes; room = record { functions = most_functions; frames = most_frames; bytes = most_bytes_of_frames } }

-- the bytes are a spelling of the program
abbrev pub SpellsProgram : List ℕ → WholeProgram → Type 0
SpellsProgram bytes whole = (rest : grammar.Place) × program.form.Spells (start bytes) whole rest

-- some text spells the program
abbrev pub IsSpelled : WholeProgram → Type 0
IsSpelled whole = (bytes : List ℕ) × SpellsProgram bytes whole

-- the bytes are no spelling, and this is where they leave the grammar first
abbrev pub DepartsWith : List ℕ → Fault → Type 0
DepartsWith bytes fault = program.form.Departs (start bytes) fault

-- ---- meanings

-- a first departure, as it is told
abbrev pub Departure : Type 0
Departure = DepartureAt Place

-- the fault with its place in the text
abbrev pub placed : List ℕ → Fault → Departure
placed bytes (Syntax left) = Syntax (place_of bytes left)
placed bytes (Number left) = Number (place_of bytes left)
placed bytes (OutOfProfile left word) = OutOfProfile (place_of bytes left) word
placed bytes (Limit which count) = Limit which count

-- the bytes spell the program, or depart so
abbrev pub Means : List ℕ → Result WholeProgram Departure → Type 0
Means bytes (Ok whole) = SpellsProgram bytes whole
Means bytes (Err departure) = (fault : Fault) × DepartsWith bytes fault × (departure ≡ placed bytes fault)

-- exactly one meaning
pub record HasOneMeaning (bytes : List ℕ) : Type 0 where
  pub meaning : Result WholeProgram Departure
  pub means : Means bytes meaning
  pub only : (other : Result WholeProgram Departure) → Means bytes other → meaning ≡ other

-- the departure that `read` tells
abbrev pub departure_of : FaultAt Place (List ℕ) → Option Departure
departure_of fault = departure_in (λ word. word) fault
