-- A text that spells a report is the report's text.
use Rattle.std.proofs.Common.{◌≡◌, ℕ, suc, Bool, true, false, List, [], ◌∷◌, ◌++◌, length, drop, refl, sym, ap, subst, ◌∙◌, arith, append-nil}
use Rattle.std.specs.Prelude.{◌==◌}
use Rattle.std.specs.List.{flat_map}
use Rattle.lists.specs.TestLaws.{by_test}
use Rattle.flow_facts.specs.Reports.{Reported}
use Rattle.fact_words.specs.Laws.{EachTextIsItsTokens}
use Rattle.fact_words.specs.Tokens.{Lexeme, ends_word, is_quoted_after, with_byte, tokens_from, tokens_of}
use Rattle.fact_words.specs.Printed.{token_bytes, printed, left_before}
use Rattle.fact_words.specs.Canonical.{report_marks}
use Rattle.fact_text.specs.Laws.{SpelledWhereWritable, ReportTextsSpell}
use Rattle.fact_text.specs.Language.{start, SpellsReport}
use Rattle.fact_text.specs.ReportLaws.{ReportsHaveOneText, TextsSpellTheirReports}
use Rattle.fact_text.proofs.Spelling.{marks_of, Placed}
use Rattle.fact_text.proofs.Rules.{report_takes, report_closes}

-- ---- the places of tokens

-- all tokens are placed, and so many bytes stand after the byte before the first
record Counted (ts : List Lexeme) (n : ℕ) : Type 0 where
  placed : Placed ts
  left : left_before ts ≡ suc n

with_byte_counted : (b : ℕ) (ts : List Lexeme) (n : ℕ) → Counted ts n → Counted (with_byte b ts) (suc n)
with_byte_counted b [] n h = absurd (let e : 0 ≡ suc n = h.left in omega (arith, e))
with_byte_counted b (t ∷ ts) n h = record { placed = (omega (arith, h.placed.0), h.placed.1); left = omega (arith, h.left) }

word_counted : (line : Bool) (ts : List Lexeme) (n : ℕ) → Counted ts n
    → Counted (record { line = line; text = []; left = suc n } ∷ ts) (suc n)
word_counted line ts n h = record { placed = (omega (arith, h.left), h.placed); left = refl }

counted : (line quoted : Bool) (bytes : List ℕ) → Counted (tokens_from line quoted bytes) (length bytes)
counted line quoted [] = record { placed = (omega arith, tt); left = refl }
counted line quoted (b ∷ bs) = by_test (ends_word quoted b)
    (λ t. rw t (word_counted line (tokens_from (b == 10) false bs) (length bs) (counted (b == 10) false bs)))
    (λ t. rw t (with_byte_counted b (tokens_from line (is_quoted_after quoted b) bs) (length bs) (counted line (is_quoted_after quoted b) bs)))

-- ---- tokens and bytes

same_bytes : (ts : List Lexeme) → flat_map token_bytes ts ≡ flat_map printed (marks_of ts)
same_bytes [] = refl
same_bytes (t ∷ ts) = ap (λ (bs : List ℕ). token_bytes t ++ bs) (same_bytes ts)

-- the words of a text that spells a report are those of the report's text
report_words : (bytes : List ℕ) (whole : Reported) → SpellsReport bytes whole
    → marks_of (tokens_of bytes) ≡ report_marks whole
report_words bytes whole h =
    let placed : Placed (tokens_of bytes) = (counted true false bytes).placed in
    let took = (report_takes.each (start bytes) whole h.0 placed h.1).0 in
    let none = report_closes.each (start bytes) whole h.0 placed h.1 in
    took.taken ∙ ap (λ (ts : List Lexeme). report_marks whole ++ marks_of ts) none ∙ append-nil (report_marks whole)

pub one_text : EachTextIsItsTokens → ReportsHaveOneText
one_text is bytes whole h =
    let words : flat_map token_bytes (tokens_of bytes) ≡ flat_map printed (report_marks whole) = same_bytes (tokens_of bytes) ∙ ap (λ ms. flat_map printed ms) (report_words bytes whole h) in
    ap (λ (bs : List ℕ). drop 1 bs) (sym (is bytes) ∙ words)

pub exactly_their_texts : EachTextIsItsTokens → SpelledWhereWritable → ReportTextsSpell → TextsSpellTheirReports
exactly_their_texts is writable own bytes whole =
    (λ h. ((writable whole).0 (bytes, h), one_text is bytes whole h), λ h. subst (λ (text : List ℕ). SpellsReport text whole) (sym h.1) (own whole h.0))
