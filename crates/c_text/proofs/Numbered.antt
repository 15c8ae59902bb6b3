-- What tokens are to the grammar hangs on their texts, and tokens that are good can be printed.
use Rattle.std.proofs.Common.{◌≡◌, ℕ, ◌+◌, true, List, [], ◌∷◌, Option, map, refl, sym, ap, subst, ◌∙◌}
use Rattle.std.specs.Option.{unwrap_or}
use Rattle.std.specs.List.{All, list_all}
use Rattle.std.proofs.lemmas.List.Elements.{All-head, All-tail}
use Rattle.grammar.specs.Each.{Each}
use Rattle.c_tokens.specs.declared.token.Kind.{Kind}
use Rattle.c_tokens.specs.declared.token.Kind.TheVariants as kinds
use Rattle.c_tokens.specs.Kinds.{kind_of}
use Rattle.c_tokens.specs.Tokens.{Lexeme}
use Rattle.c_tokens.specs.Printed.{has_printed_kind, can_print}
use Rattle.c_grammar.specs.Symbols.{symbol_of}
use Rattle.c_grammar.specs.Tokens.{Seen}
use Rattle.c_reader.specs.Reading.{numbered}
use Rattle.c_text.specs.SpellingLaws.{IsOfItsKind, text_of, numbered_texts}
use Rattle.c_text.proofs.Taking.{Good}

-- ---- by their texts

kind_is : (t : Lexeme) → IsOfItsKind t → unwrap_or (kind_of t.text) kinds.Other ≡ t.kind
kind_is t k = rw k refl

abbrev of_kind : ℕ → Lexeme → Kind → Seen
of_kind n t kind = record { symbol = symbol_of kind t.text; number = n; text = t.text }

pub by_texts : (n : ℕ) (ts : List Lexeme) → All IsOfItsKind ts → numbered n ts ≡ numbered_texts n (map text_of ts)
by_texts n [] all = refl
by_texts n (t ∷ ts) all =
    let first : of_kind n t t.kind ≡ of_kind n t (unwrap_or (kind_of t.text) kinds.Other) = ap (of_kind n t) (sym (kind_is t (All-head IsOfItsKind t ts all))) in
    let others = by_texts (n + 1) ts (All-tail IsOfItsKind t ts all) in
    ap (λ (s : Seen). s ∷ numbered (n + 1) ts) first ∙ ap (λ (ss : List Seen). of_kind n t (unwrap_or (kind_of t.text) kinds.Other) ∷ ss) others

-- ---- what can be printed

good_prints : (n : ℕ) (t : Lexeme) → IsOfItsKind t → Good (of_kind n t t.kind) → can_print t.text ≡ true
unfolding can_print
good_prints n t k g = subst (λ (o : Option Kind). has_printed_kind o ≡ true) (sym k) (g t.kind k refl)

pub all_print : (n : ℕ) (ts : List Lexeme) → All IsOfItsKind ts → Each Good (numbered n ts)
    → list_all can_print (map text_of ts) ≡ true
all_print n [] all g = refl
all_print n (t ∷ ts) all g =
    let first = good_prints n t (All-head IsOfItsKind t ts all) g.0 in
    let others = all_print (n + 1) ts (All-tail IsOfItsKind t ts all) g.1 in
    rw (first, others) refl
