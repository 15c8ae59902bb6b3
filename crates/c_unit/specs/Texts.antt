-- The texts of the tokens of a unit.
--   span_text text s   what stands in a range of the text
--   texts_of unit      the texts of the words, in order
use Rattle.std.specs.Prelude.{ℕ, List, map, take, drop}
use Rattle.c_unit.specs.declared.tokens.Span.{Span}
use Rattle.c_unit.specs.Units.{Word, UnitTree}

abbrev pub span_text : List ℕ → Span → List ℕ
span_text text s = take s.len (drop s.start text)

abbrev pub texts_of : UnitTree → List (List ℕ)
texts_of unit = map (λ (w : Word). w.text) unit.words
