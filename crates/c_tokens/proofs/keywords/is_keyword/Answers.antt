-- The table is the list of keywords.
use Rattle.std.proofs.Common.{◌≡◌, ℕ, List, [], ◌∷◌, map, Bor, refl, ap, ◌∙◌, ◌||◌, Bool}
use Rattle.std.specs.List.{list_any}
use Rattle.std.specs.Str.{bytes_eq}
use Rattle.c_tokens.specs.Keywords.{is_keyword}
use Rattle.c_tokens.proofs.keywords.is_keyword.Goals as goal

among_texts : (text : List ℕ) (words : List (Bor (List ℕ))) → list_any (λ (word : Bor (List ℕ)). bytes_eq word.now text) words ≡ list_any (λ (word : List ℕ). bytes_eq word text) (map (λ (word : Bor (List ℕ)). word.now) words)
among_texts text [] = refl
among_texts text (w ∷ ws) = ap (λ (b : Bool). bytes_eq w.now text || b) (among_texts text ws)

pub returns : goal.returns
unfolding is_keyword
returns c = c.is_word_of.ensures ∙ among_texts c.args.text.now c.keywords.result.now ∙ ap (list_any (λ (word : List ℕ). bytes_eq word c.args.text.now)) c.keywords.ensures
