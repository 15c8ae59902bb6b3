-- What the reader stands for.
--   seen token         a token, without where its bytes lie in memory; seen_in text token   one that was cut from a text
--   span_of token      the range of a token that was cut; word_in text token   the token as a word of its text
--   numbered n tokens  the tokens of a text as the grammar sees them, numbered from n on
--   position reader    the position that it stands at
--   fault_of error     the fault of an error, or none where memory ran out
--   Reads rule view result before after   an answer of the reader is what reading by the rule gives, where `view` is what is seen of a value
use Rattle.std.specs.Prelude.{ℕ, ◌+◌, List, [], ◌∷◌, map, take, drop, Bool, Result, Option, Some, None}
use Rattle.grammar.specs.Reading.{Reading}
use Rattle.grammar.specs.Reading as reading
use Rattle.c_tokens.specs.Tokens.{Lexeme}
use Rattle.c_unit.specs.declared.tokens.Span.{Span}
use Rattle.c_unit.specs.Units.{Word, word_of_span}
use Rattle.c_grammar.specs.Symbols.{symbol_of}
use Rattle.c_grammar.specs.Tokens.{Fault, Syntax, Number, OutOfProfile, Limit, Seen, Room, Place, Rule}
use Rattle.c_reader.specs.declared.tokens.Token.{Token}
use Rattle.c_reader.specs.declared.tokens.CutToken.{CutToken}
use Rattle.c_reader.specs.declared.fault.Departure.{Departure}
use Rattle.c_reader.specs.declared.fault.Departure.TheVariants as faults
use Rattle.c_reader.specs.declared.reader.Reader.{Reader}

abbrev pub seen : Token → Seen
seen t = record { symbol = t.symbol; number = t.number; text = t.text.now }

-- a token that was cut from a text
abbrev pub seen_in : List ℕ → CutToken → Seen
seen_in text t = record { symbol = t.symbol; number = t.number; text = take t.span.len (drop t.span.start text) }

abbrev pub span_of : CutToken → Span
span_of t = t.span

-- a token that was cut, as a word of its text
abbrev pub word_in : List ℕ → CutToken → Word
word_in text t = word_of_span text t.span

abbrev pub numbered : ℕ → List Lexeme → List Seen
numbered n [] = []
numbered n (t ∷ ts) = record { symbol = symbol_of t.kind t.text; number = n; text = t.text } ∷ numbered (n + 1) ts

abbrev pub position : Reader → Place
position r = record { ahead = map (seen_in r.text.now) r.rest.now; room = record { functions = r.functions; frames = r.frames; elements = r.elements; names = r.names } }

abbrev pub fault_of : Departure → Option Fault
fault_of (faults.Syntax n) = Some (Syntax n)
fault_of (faults.Number n) = Some (Number n)
fault_of (faults.OutOfProfile n) = Some (OutOfProfile n)
fault_of (faults.Limit which count) = Some (Limit which count)
fault_of faults.Memory = None

abbrev pub c_text : Reading Reader Departure
c_text = record { Token = Seen; Room = Room; Fault = Fault; position = position; fault_of = fault_of }

abbrev pub Reads : {some : Bool} {X Y : Type 0} → Rule some Y → (X → Y) → Result X Departure → Reader → Reader → Type 0
Reads rule view result before after = reading.Reads c_text rule view result before after
