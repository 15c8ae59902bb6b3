-- What the reader stands for.
--   position reader    the position that it stands at
--   lines              both together, as lists are read by them
--   Reads rule view result before after   an answer of the reader is what reading by the rule gives, where `view` is what is seen of a value
use Rattle.std.specs.Prelude.{ℕ, Bool, Result}
use Rattle.grammar.specs.Reading.{Reading}
use Rattle.grammar.specs.Reading as reading
use Rattle.fact_words.specs.Tokens.{Lexeme}
use Rattle.fact_words.specs.Ahead.{ahead}
use Rattle.fact_words.specs.declared.fault.FaultAt.{FaultAt}
use Rattle.fact_text.specs.declared.reader.Reader.{Reader}
use Rattle.fact_words.specs.Numbers.{Fault}
use Rattle.fact_text.specs.Grammar.{Place, Rule}
pub use Rattle.fact_words.specs.Answers.{fault_of}

abbrev pub position : Reader → Place
position r = record { ahead = ahead r.cursor; room = tt }

abbrev pub lines : Reading Reader (FaultAt ℕ)
lines = record { Token = Lexeme; Room = Unit {0}; Fault = Fault; position = position; fault_of = fault_of }

abbrev pub Reads : {some : Bool} {X Y : Type 0} → Rule some Y → (X → Y) → Result X (FaultAt ℕ) → Reader → Reader
    → Type 0
Reads rule view result before after = reading.Reads lines rule view result before after
