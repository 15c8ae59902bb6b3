-- A printed text is cut into what was printed.
use Rattle.std.proofs.Common.{◌≡◌, ℕ, true, false, List, [], ◌∷◌, ◌++◌, length, map, Option, Some, None, refl, sym, ap, subst, ◌∙◌, append_assoc, arith}
use Rattle.std.specs.List.{list_all, flat_map}
use Rattle.std.proofs.lemmas.Bool.{and_parts}
use Rattle.std.proofs.lemmas.List.{take_at, drop_at}
use Rattle.c_tokens.specs.declared.token.Kind.{Kind}
use Rattle.c_tokens.specs.declared.token.Kind.TheVariants as kinds
use Rattle.c_tokens.specs.Kinds.{kind_of}
use Rattle.c_tokens.specs.Tokens.{Lexeme, is_white, tokens_of}
use Rattle.c_tokens.specs.Printed.{is_printed_kind, has_printed_kind, can_print, spaced, printed_text}
use Rattle.c_tokens.proofs.Pieces.{IsPiece, piece_at, tokens_step, no_tokens}
use Rattle.c_tokens.proofs.Spaced.{Separates, space_separates, line_feed_separates, text_is_piece}

printed_shown : (kind : Kind) → is_printed_kind kind ≡ true → is_white kind ≡ false
printed_shown kinds.White h = absurd cc
printed_shown kinds.Identifier h = refl
printed_shown kinds.Number h = refl
printed_shown kinds.Character h = refl
printed_shown kinds.StringLiteral h = refl
printed_shown kinds.Punctuator h = refl
printed_shown kinds.Other h = refl
printed_shown kinds.OpenLiteral h = refl
printed_shown kinds.OpenComment h = refl

kind_is : (o : Option Kind) → has_printed_kind o ≡ true → (kind : Kind) × (o ≡ Some kind) × (is_white kind ≡ false)
kind_is None h = absurd cc
kind_is (Some kind) h = (kind, refl, printed_shown kind h)

text_kind : (text : List ℕ) → can_print text ≡ true
    → (kind : Kind) × (kind_of text ≡ Some kind) × (is_white kind ≡ false)
unfolding can_print
text_kind text h = kind_is (kind_of text) h

abbrev texts_of : List ℕ → List (List ℕ)
texts_of bytes = map (λ (t : Lexeme). t.text) (tokens_of bytes)

module _ (s : ℕ) (is : Separates s) where
  separator_first : (rest : List ℕ) → tokens_of (s ∷ rest) ≡ tokens_of rest
  separator_first rest = tokens_step kinds.White 1 s rest (subst (λ (p : Kind × ℕ). IsPiece p.0 p.1 (s ∷ rest)) (is.alone rest) (piece_at s rest))

  at_text : (text rest : List ℕ) (kind : Kind) → IsPiece kind (length text) (text ++ s ∷ rest) → is_white kind ≡ false
      → texts_of (text ++ s ∷ rest) ≡ text ∷ texts_of (s ∷ rest)
  at_text [] rest kind p w = let t = p.takes in absurd (omega arith)
  at_text (b ∷ bs) rest kind p w =
      ap (map (λ (t : Lexeme). t.text)) (tokens_step kind (length (b ∷ bs)) b (bs ++ s ∷ rest) p)
      ∙ rw (w, take_at (b ∷ bs) (s ∷ rest) (length (b ∷ bs)) refl, drop_at (b ∷ bs) (s ∷ rest) (length (b ∷ bs)) refl) refl

  text_first : (text rest : List ℕ) → can_print text ≡ true → texts_of (text ++ s ∷ rest) ≡ text ∷ texts_of (s ∷ rest)
  text_first text rest h = let k = text_kind text h in at_text text rest k.0 (text_is_piece s is text rest k.0 h k.1) k.2

abbrev ended : List (List ℕ) → List ℕ
ended texts = flat_map spaced texts ++ 10 ∷ []

-- a separator stands first
ended_begins : (texts : List (List ℕ)) → (s : ℕ) × (rest : List ℕ) × Separates s × (ended texts ≡ s ∷ rest)
ended_begins [] = (10, [], line_feed_separates, refl)
ended_begins (t ∷ ts) = (32, (t ++ flat_map spaced ts) ++ 10 ∷ [], space_separates, refl)

texts_cut : (texts : List (List ℕ)) → list_all can_print texts ≡ true → texts_of (ended texts) ≡ texts
texts_cut [] all = ap (map (λ (t : Lexeme). t.text)) (separator_first 10 line_feed_separates [] ∙ no_tokens [] refl)
texts_cut (t ∷ ts) all =
    let parts = and_parts (can_print t) (list_all can_print ts) all in
    let n = ended_begins ts in
    let here : texts_of (t ++ ended ts) ≡ t ∷ texts_of (ended ts) = rw n.3 (text_first n.0 n.2 t n.1 parts.0) in
    ap (map (λ (t : Lexeme). t.text)) (separator_first 32 space_separates ((t ++ flat_map spaced ts) ++ 10 ∷ []))
    ∙ rw (append_assoc t (flat_map spaced ts) (10 ∷ [])) (here ∙ ap (λ (us : List (List ℕ)). t ∷ us) (texts_cut ts parts.1))

pub printed_cut : (texts : List (List ℕ)) → list_all can_print texts ≡ true
    → map (λ (t : Lexeme). t.text) (tokens_of (printed_text texts)) ≡ texts
unfolding printed_text
printed_cut [] all = texts_cut [] all
printed_cut (t ∷ ts) all = ap (map (λ (t : Lexeme). t.text)) (sym (separator_first 32 space_separates ((t ++ flat_map spaced ts) ++ 10 ∷ []))) ∙ texts_cut (t ∷ ts) all
