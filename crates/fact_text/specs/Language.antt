-- What a text means: the report that it spells, or its first departure from the grammar.
--   start bytes                   where the reading of a text starts
--   SpellsReport bytes whole      the bytes are a spelling of the report
--   IsSpelled whole               some text spells the report
--   DepartsWith bytes fault       the bytes are no spelling, and this is where they leave the grammar first
--   Departure, placed bytes fault the fault as it is told: with the place in the text
--   Means bytes meaning           the bytes spell the report, or depart so
--   HasOneMeaning bytes           they have exactly one meaning
--   departure_of answer           the departure of an answer of `read`, or none where memory ran out
use Rattle.std.specs.Prelude.{◌≡◌, ℕ, List, Result, Ok, Err, Option}
use Rattle.flow_base.specs.declared.place.Place.{Place}
use Rattle.flow_base.specs.Places.{place_of}
use Rattle.flow_facts.specs.Reports.{Reported}
use Rattle.fact_words.specs.Tokens.{tokens_of}
use Rattle.fact_words.specs.declared.fault.FaultAt.{FaultAt}
use Rattle.fact_words.specs.Numbers.{DepartureAt, Fault, Syntax, Number}
use Rattle.fact_words.specs.Answers.{departure_in}
use Rattle.fact_text.specs.Grammar.{report}
use Rattle.fact_text.specs.Grammar as grammar

-- where the reading of a text starts
abbrev pub start : List ℕ → grammar.Place
start bytes = record { ahead = tokens_of bytes; room = tt }

-- the bytes are a spelling of the report
abbrev pub SpellsReport : List ℕ → Reported → Type 0
SpellsReport bytes whole = (rest : grammar.Place) × report.form.Spells (start bytes) whole rest

-- some text spells the report
abbrev pub IsSpelled : Reported → Type 0
IsSpelled whole = (bytes : List ℕ) × SpellsReport bytes whole

-- the bytes are no spelling, and this is where they leave the grammar first
abbrev pub DepartsWith : List ℕ → Fault → Type 0
DepartsWith bytes fault = report.form.Departs (start bytes) fault

-- ---- meanings

-- a first departure, as it is told
abbrev pub Departure : Type 0
Departure = DepartureAt Place

-- the fault with its place in the text
abbrev pub placed : List ℕ → Fault → Departure
placed bytes (Syntax left) = Syntax (place_of bytes left)
placed bytes (Number left) = Number (place_of bytes left)

-- the bytes spell the report, or depart so
abbrev pub Means : List ℕ → Result Reported Departure → Type 0
Means bytes (Ok whole) = SpellsReport bytes whole
Means bytes (Err departure) = (fault : Fault) × DepartsWith bytes fault × (departure ≡ placed bytes fault)

-- exactly one meaning
pub record HasOneMeaning (bytes : List ℕ) : Type 0 where
  pub meaning : Result Reported Departure
  pub means : Means bytes meaning
  pub only : (other : Result Reported Departure) → Means bytes other → meaning ≡ other

-- the departure that `read` tells
abbrev pub departure_of : FaultAt Place → Option Departure
departure_of fault = departure_in fault
