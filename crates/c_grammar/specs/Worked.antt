-- Small units, to be read.
--   seen_from n tokens   tokens of a text as the grammar sees them, numbered from n on
--   trees_in text        the trees of a text, or how it departs
use Rattle.std.specs.Prelude.{ℕ, ◌+◌, List, [], ◌∷◌, Result, Ok}
use Rattle.grammar.specs.Form.{and_then}
use Rattle.c_tokens.specs.Tokens.{Lexeme, tokens_of}
use Rattle.c_unit.specs.Tree.{ExternalTree}
use Rattle.c_grammar.specs.Symbols.{symbol_of}
use Rattle.c_grammar.specs.Tokens.{Fault, Seen, Place, most_functions, most_frames, most_elements}
use Rattle.c_grammar.specs.Units.{unit}

abbrev pub seen_from : ℕ → List Lexeme → List Seen
seen_from n [] = []
seen_from n (t ∷ ts) = record { symbol = symbol_of t.kind t.text; number = n; text = t.text } ∷ seen_from (n + 1) ts

abbrev start : List ℕ → Place
start text = record { ahead = seen_from 0 (tokens_of text); room = record { functions = most_functions; frames = most_frames; elements = most_elements; names = [] } }

abbrev pub trees_in : List ℕ → Result (List ExternalTree) Fault
trees_in text = and_then (unit.form.reading (start text)) (λ r. Ok r.0)
