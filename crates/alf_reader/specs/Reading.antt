-- What the reader stands for.
--   position reader    the position that it stands at
--   departure_in see error   the departure of an error whose words are seen so, or none where memory ran out
--   fault_of error     the fault of an error of the reader, or none where memory ran out
--   alf                both together, as lists are read by them
--   Reads rule view result before after   an answer of the reader is what reading by the rule gives, where `view` is what is seen of a value
use denote.Ref.{Bor}
use Rattle.std.specs.Prelude.{ℕ, List, Bool, Result, Option, Some, None}
use Rattle.grammar.specs.Reading.{Reading}
use Rattle.grammar.specs.Reading as reading
use Rattle.alf_tokens.specs.Tokens.{Lexeme}
use Rattle.alf_tokens.specs.Ahead.{ahead}
use Rattle.alf_reader.specs.declared.fault.FaultAt.{FaultAt}
use Rattle.alf_reader.specs.declared.fault.FaultAt.TheVariants as faults
use Rattle.alf_reader.specs.declared.reader.Reader.{Reader}
use Rattle.alf_reader.specs.Grammar.{DepartureAt, Fault, Syntax, Number, OutOfProfile, Limit, Room, Place, Rule}

-- the departure that an error tells where words are seen so, or none for want of memory
abbrev pub departure_in : {P W : Type 0} → (W → List ℕ) → FaultAt P W → Option (DepartureAt P)
departure_in see (faults.Syntax place) = Some (Syntax place)
departure_in see (faults.Number place) = Some (Number place)
departure_in see (faults.OutOfProfile place word) = Some (OutOfProfile place (see word))
departure_in see (faults.Limit which count) = Some (Limit which count)
departure_in see faults.Memory = None

abbrev pub position : Reader → Place
position r = record { ahead = ahead r.cursor; room = record { functions = r.functions; frames = r.frames; bytes = r.bytes } }

-- an error's departure, with the words that it borrows
abbrev pub Departure : Type 0
Departure = FaultAt ℕ (Bor (List ℕ))

abbrev pub fault_of : Departure → Option Fault
fault_of error = departure_in (λ word. word.now) error

abbrev pub alf : Reading Reader Departure
alf = record { Token = Lexeme; Room = Room; Fault = Fault; position = position; fault_of = fault_of }

abbrev pub Reads : {some : Bool} {X Y : Type 0} → Rule some Y → (X → Y) → Result X Departure → Reader → Reader → Type 0
Reads rule view result before after = reading.Reads alf rule view result before after
