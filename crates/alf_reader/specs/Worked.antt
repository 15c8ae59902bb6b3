-- Small expressions, to be read.
--   term_in text   the expression of a text, or how it departs
--   load_text      a load of 32 bits from an address
use Rattle.std.specs.Prelude.{ℕ, List, Result, Ok, codes}
use Rattle.grammar.specs.Form.{and_then}
use Rattle.alf_tokens.specs.Tokens.{tokens_of}
use Rattle.alf_program.specs.Tree.{NamedExpression}
use Rattle.alf_reader.specs.Grammar.{Fault, Place, whole_expr, most_functions, most_frames, most_bytes_of_frames}

abbrev start : List ℕ → Place
start text = record { ahead = tokens_of text; room = record { functions = most_functions; frames = most_frames; bytes = most_bytes_of_frames } }

abbrev pub term_in : List ℕ → Result NamedExpression Fault
term_in text = and_then (whole_expr.form.reading (start text)) (λ r. Ok r.0)

abbrev pub load_text : List ℕ
load_text = codes "{load 32{addr 32{fref 32\"x\"}{dec_unsigned 32 4}}}"
