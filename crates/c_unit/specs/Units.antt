-- Units, as contracts see them.
--   Word                 a token of a unit: its bytes and its place
--   word_of text t       the token t of the text
--   word_of_span text s  what stands in a range of the text
--   UnitTree, unit_of    a unit: its tokens in order, and the trees over them
use Rattle.std.specs.Prelude.{ℕ, List, map, take, drop}
use Rattle.flow_base.specs.declared.place.Place.{Place}
use Rattle.c_tokens.specs.Tokens.{Lexeme}
use Rattle.flow_base.specs.Places.{place_after, place_of}
use Rattle.c_unit.specs.declared.tokens.Span.{Span}
use Rattle.c_unit.specs.declared.unit.CUnit.{CUnit}
use Rattle.c_unit.specs.Tree.{ExternalTree, external_of}

-- a token of a unit
pub record Word : Type 0 where
  pub text : List ℕ
  pub place : Place

abbrev pub word_of : List ℕ → Lexeme → Word
word_of text t = record { text = t.text; place = place_of text t.left }

abbrev pub word_of_span : List ℕ → Span → Word
word_of_span text s = record { text = take s.len (drop s.start text); place = place_after (take s.start text) }

pub record UnitTree : Type 0 where
  pub words : List Word
  pub externals : List ExternalTree

abbrev pub unit_of : CUnit → UnitTree
unit_of u = record { words = map (word_of_span u.text.items) u.tokens.items; externals = map external_of u.externals.items }
