-- The text that ranges print.
use Rattle.std.proofs.Common.{◌≡◌, ℕ, List, [], ◌∷◌, ◌++◌, drop, map, refl, ap}
use Rattle.std.specs.List.{flat_map}
use Rattle.c_tokens.specs.Printed.{spaced, printed_text}
use Rattle.c_unit.specs.declared.tokens.Span.{Span}
use Rattle.c_unit.specs.Units.{Word, word_of_span}
use Rattle.c_unit.specs.Texts.{span_text}

abbrev pub texts : List ℕ → List Span → List (List ℕ)
texts text spans = map (λ (w : Word). w.text) (map (word_of_span text) spans)

same_spaced : (text : List ℕ) (spans : List Span)
    → flat_map (λ (s : Span). spaced (span_text text s)) spans ≡ flat_map spaced (texts text spans)
same_spaced text [] = refl
same_spaced text (s ∷ ss) = ap (λ (bytes : List ℕ). spaced (span_text text s) ++ bytes) (same_spaced text ss)

pub print_is : (text : List ℕ) (spans : List Span)
    → drop 1 (flat_map (λ (s : Span). spaced (span_text text s)) spans) ++ 10 ∷ [] ≡ printed_text (texts text spans)
unfolding printed_text
print_is text spans = ap (λ (bytes : List ℕ). drop 1 bytes ++ 10 ∷ []) (same_spaced text spans)
