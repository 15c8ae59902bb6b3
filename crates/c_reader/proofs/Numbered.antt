-- Tokens that have been cut, and those that are still to come.
--   Cut text done n rest   so many have been cut, and with the rest, numbered from there on, they are all of the text; so are the words
use Rattle.std.proofs.Common.{◌≡◌, ℕ, ◌+◌, ◌-◌, List, [], ◌∷◌, ◌++◌, length, map, refl, append_assoc}
use Rattle.std.specs.List.{All}
use Rattle.std.proofs.lemmas.List.{map-append}
use Rattle.std.proofs.lemmas.List.Elements.{All-head, All-tail}
use Rattle.c_tokens.specs.Tokens.{Lexeme, tokens_of}
use Rattle.c_tokens.specs.Laws.{StandsIn}
use Rattle.c_unit.specs.Units.{word_of}
use Rattle.c_grammar.specs.Tokens.{Seen}
use Rattle.c_grammar.specs.Symbols.{symbol_of}
use Rattle.c_reader.specs.declared.tokens.CutToken.{CutToken}
use Rattle.c_reader.specs.Reading.{seen_in, word_in, numbered}

pub record Cut (text : List ℕ) (done : List CutToken) (n : ℕ) (rest : List Lexeme) : Type 0 where
  pub joined : map (seen_in text) done ++ numbered n rest ≡ numbered 0 (tokens_of text)
  pub words : map (word_in text) done ++ map (word_of text) rest ≡ map (word_of text) (tokens_of text)
  pub stand : All (StandsIn text) rest

abbrev pub cut_of : List ℕ → ℕ → Lexeme → CutToken
cut_of text n t = record { symbol = symbol_of t.kind t.text; number = n; span = record { start = length text - t.left; len = length t.text } }

abbrev pub seen_of : ℕ → Lexeme → Seen
seen_of n t = record { symbol = symbol_of t.kind t.text; number = n; text = t.text }

pub cut_more : (text : List ℕ) (done : List CutToken) (n : ℕ) (t : Lexeme) (rest : List Lexeme)
    → Cut text done n (t ∷ rest) → Cut text (done ++ cut_of text n t ∷ []) (n + 1) rest
cut_more text done n t rest c =
    let here = All-head (StandsIn text) t rest c.stand in
    let token : seen_in text (cut_of text n t) ≡ seen_of n t = rw here.there refl in
    let word : word_in text (cut_of text n t) ≡ word_of text t = rw here.there refl in
    record {
      joined = rw (map-append (seen_in text) done (cut_of text n t ∷ []), append_assoc (map (seen_in text) done) (seen_in text (cut_of text n t) ∷ []) (numbered (n + 1) rest), token) c.joined;
      words = rw (map-append (word_in text) done (cut_of text n t ∷ []), append_assoc (map (word_in text) done) (word_in text (cut_of text n t) ∷ []) (map (word_of text) rest), word) c.words;
      stand = All-tail (StandsIn text) t rest c.stand;
    }
