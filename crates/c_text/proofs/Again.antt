-- Units that some text spells can be printed, and what is printed is read back.
use Rattle.std.proofs.Common.{◌≡◌, ℕ, List, [], ◌∷◌, map, true, refl, sym, ap, subst, ◌∙◌}
use Rattle.std.specs.List.{list_all}
use Rattle.c_tokens.specs.Tokens.{Lexeme, tokens_of}
use Rattle.c_tokens.specs.Printed.{can_print, printed_text}
use Rattle.c_tokens.specs.Laws.{EachTokenIsOfItsKind, EachPrintedTextIsCut}
use Rattle.c_unit.specs.Units.{Word, word_of, UnitTree}
use Rattle.c_unit.specs.Texts.{texts_of}
use Rattle.c_grammar.specs.Tokens.{Seen, Place}
use Rattle.c_grammar.specs.Units.{unit}
use Rattle.c_text.specs.SpellingLaws.{text_of, EachSpelledTokenCanBePrinted, NumberedByTheirTexts}
use Rattle.c_text.specs.Language.{full_room, start, words_of, SpellsUnit}
use Rattle.c_text.specs.Laws.{SameButPlaces, IsReadBack, start_of_texts, IsReadable, EachSpelledUnitCanBePrinted, PrintedUnitsAreReadBack, SpelledWhereReadable}

abbrev text_of_word : Word → List ℕ
text_of_word w = w.text

-- a word has the text of its token
word_texts : (bytes : List ℕ) (ts : List Lexeme) → map text_of_word (map (word_of bytes) ts) ≡ map text_of ts
word_texts bytes [] = refl
word_texts bytes (t ∷ ts) = ap (λ (texts : List (List ℕ)). t.text ∷ texts) (word_texts bytes ts)

unit_texts : (bytes : List ℕ) (whole : UnitTree) → whole.words ≡ words_of bytes
    → texts_of whole ≡ map text_of (tokens_of bytes)
unit_texts bytes whole e = ap (λ (ws : List Word). map text_of_word ws) e ∙ word_texts bytes (tokens_of bytes)

module _ (cut : EachPrintedTextIsCut) (kinds : EachTokenIsOfItsKind) (prints : EachSpelledTokenCanBePrinted) (numbers : NumberedByTheirTexts) where
  start_is : (bytes : List ℕ) → start bytes ≡ start_of_texts (map text_of (tokens_of bytes))
  start_is bytes = ap (λ (ss : List Seen). record { ahead = ss; room = full_room }) (numbers 0 (tokens_of bytes) (kinds bytes))

  spelled_prints : (bytes : List ℕ) (whole : UnitTree) → SpellsUnit bytes whole
      → list_all can_print (texts_of whole) ≡ true
  spelled_prints bytes whole s = rw (unit_texts bytes whole s.words) (prints full_room (tokens_of bytes) whole.externals s.trees.0 (kinds bytes) s.trees.1)

  pub printed : EachSpelledUnitCanBePrinted
  printed whole h = spelled_prints h.0 whole h.1

  -- what is spelled is readable
  spelled_readable : (bytes : List ℕ) (whole : UnitTree) → SpellsUnit bytes whole → IsReadable whole
  spelled_readable bytes whole s = record {
    printed = spelled_prints bytes whole s;
    rest = s.trees.0;
    spells = subst (λ (p : Place). unit.form.Spells p whole.externals s.trees.0) (start_is bytes ∙ ap start_of_texts (sym (unit_texts bytes whole s.words))) s.trees.1;
  }

  -- what is readable is printed and read back
  readable_back : (whole : UnitTree) → IsReadable whole → IsReadBack whole (printed_text (texts_of whole))
  readable_back whole r =
      let bytes = printed_text (texts_of whole) in
      let texts : map text_of (tokens_of bytes) ≡ texts_of whole = cut (texts_of whole) r.printed in
      let here : start bytes ≡ start_of_texts (texts_of whole) = start_is bytes ∙ ap start_of_texts texts in
      record {
        other = record { words = words_of bytes; externals = whole.externals };
        spells = record { words = refl; trees = (r.rest, subst (λ (p : Place). unit.form.Spells p whole.externals r.rest) (sym here) r.spells) };
        same = record { texts = sym (word_texts bytes (tokens_of bytes) ∙ texts); externals = refl };
      }

  pub again : PrintedUnitsAreReadBack
  again whole h = readable_back whole (spelled_readable h.0 whole h.1)

  readable_same : (whole other : UnitTree) → SameButPlaces whole other → IsReadable other → IsReadable whole
  readable_same whole other e r = record {
    printed = rw e.texts r.printed;
    rest = r.rest;
    spells = rw (e.texts, e.externals) r.spells;
  }

  pub exactly : SpelledWhereReadable
  exactly whole = (λ h. readable_same whole h.1.other h.1.same (spelled_readable h.0 h.1.other h.1.spells), λ r. (printed_text (texts_of whole), readable_back whole r))
