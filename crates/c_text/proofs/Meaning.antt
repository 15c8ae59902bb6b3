-- A text has one meaning, which reading computes. It follows from the type of the rule alone.
use Rattle.std.proofs.Common.{◌≡◌, ℕ, Bool, List, [], map, Result, Ok, Err, Option, Some, None, refl, sym, ap, subst}
use Rattle.std.specs.Prelude.{IfSome, IsSomeAnd}
use Rattle.std.proofs.lemmas.Simd.{map-map}
use Rattle.grammar.specs.Form.{Fails}
use Rattle.grammar.specs.Exact.{Says}
use Rattle.c_tokens.specs.Tokens.{tokens_of}
use Rattle.c_unit.specs.Tree.{ExternalTree}
use Rattle.c_unit.specs.Units.{Word, word_of_span, UnitTree}
use Rattle.c_grammar.specs.Tokens.{Fault, Seen, Place}
use Rattle.c_grammar.specs.Units.{unit}
use Rattle.c_reader.specs.declared.tokens.CutToken.{CutToken}
use Rattle.c_reader.specs.Reading.{span_of, word_in, numbered}
use Rattle.c_text.specs.Language.{start, words_of, SpellsTrees, SpellsUnit, Departure, placed, Means, HasOneMeaning}

-- what reading gives, as it is told
abbrev pub meant : List ℕ → Result (List ExternalTree × Place) Fault → Result UnitTree Departure
meant bytes (Ok x) = Ok (record { words = words_of bytes; externals = x.0 })
meant bytes (Err fault) = Err (placed bytes fault)

module _ (bytes : List ℕ) where
  says_means : (r : Result (List ExternalTree × Place) Fault) → Says unit.form (start bytes) r
      → Means bytes (meant bytes r)
  says_means (Ok x) h = record { words = refl; trees = (x.1, h) }
  says_means (Err fault) h = (fault, h, refl)

  -- what is read is meant
  pub read_means : (r : Result (List ExternalTree × Place) Fault) → unit.form.reading (start bytes) ≡ r
      → Means bytes (meant bytes r)
  read_means r e = says_means r (subst (Says unit.form (start bytes)) e (unit.exact.holds (start bytes)))

  abbrev with_words : List ExternalTree → List Word → Result UnitTree Departure
  with_words externals words = Ok (record { words = words; externals = externals })

  means_read : (m : Result UnitTree Departure) → Means bytes m → meant bytes (unit.form.reading (start bytes)) ≡ m
  means_read (Ok whole) h = rw (unit.exact.alone (start bytes) (Ok (whole.externals, h.trees.0)) h.trees.1) (ap (with_words whole.externals) (sym h.words))
  means_read (Err departure) h = rw (unit.exact.alone (start bytes) (Err h.0) h.1) (ap (λ (d : Departure). Err d) (sym h.2))

  pub has_one : HasOneMeaning bytes
  has_one = record {
    meaning = meant bytes (unit.form.reading (start bytes));
    means = read_means (unit.form.reading (start bytes)) refl;
    only = means_read;
  }

  -- what is read of the tokens that were cut, where no function is declared, is spelled
  pub read_trees : (ts : List Seen) (names : List (List ℕ × Bool)) → ts ≡ numbered 0 (tokens_of bytes) → names ≡ []
      → (externals : List ExternalTree) (rest : Place)
      → unit.form.reading (record { ahead = ts; room = record { functions = 256; frames = 256; elements = 8192; names = names } }) ≡ Ok (externals, rest) → SpellsTrees bytes externals
  read_trees ts names cut none externals rest e =
      let here : unit.form.reading (start bytes) ≡ Ok (externals, rest) = (rw (cut, none) at e) in
      (rest, subst (Says unit.form (start bytes)) here (unit.exact.holds (start bytes)))

  -- the words of the ranges are those of the tokens
  pub same_words : (tokens : List CutToken) → map (word_of_span bytes) (map span_of tokens) ≡ map (word_in bytes) tokens
  same_words tokens = map-map (word_of_span bytes) span_of tokens

  -- a unit of the tokens and of trees that are spelled
  pub unit_spelled : (tokens : List CutToken) (externals : List ExternalTree) (whole : UnitTree)
      → map (word_in bytes) tokens ≡ words_of bytes → SpellsTrees bytes externals
      → whole ≡ record { words = map (word_in bytes) tokens; externals = externals } → SpellsUnit bytes whole
  unit_spelled tokens externals whole m s e = rw e (record { words = m; trees = s })

  -- a departure that is told is meant
  pub told_means : (told : Option Departure) (fault : Option Fault) → Fails fault (unit.form.reading (start bytes))
      → IfSome told (λ told. IsSomeAnd fault (λ fault. told ≡ placed bytes fault)) → IfSome told (λ departure. Means bytes (Err departure))
  told_means None fault h t = tt
  told_means (Some told) None h t = absurd t
  told_means (Some told) (Some fault) h t = subst (λ (d : Departure). Means bytes (Err d)) (sym t) (read_means (Err fault) h)
