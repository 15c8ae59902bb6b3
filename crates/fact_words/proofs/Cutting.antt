-- The first token of a text, and what follows it.
use Rattle.std.proofs.Common.{◌≡◌, ℕ, zero, suc, ◌+◌, ◌-◌, ◌≤◌, Bool, true, false, cond, ◌&&◌, ◌||◌, not, List, [], ◌∷◌, ◌++◌, length, take, drop, refl, sym, ◌∙◌, arith}
use Rattle.std.specs.Prelude.{◌==◌}
use Rattle.std.specs.List.{flat_map}
use Rattle.std.proofs.lemmas.Bool.{eqb-true}
use Rattle.lists.specs.TestLaws.{by_test}
use Rattle.fact_words.specs.Tokens.{Lexeme, ends_word, is_quoted_after, word_len, with_byte, tokens_from, others_of}
use Rattle.fact_words.specs.Printed.{separator, token_bytes}

pub word_within : (quoted : Bool) (bytes : List ℕ) → word_len quoted bytes ≤ length bytes
word_within quoted [] = omega arith
word_within quoted (b ∷ bs) = by_test (ends_word quoted b)
    (λ t. rw t (omega arith))
    (λ t. rw t (omega (arith, word_within (is_quoted_after quoted b) bs)))

-- the word comes first, and then what follows it
pub first_token : (line quoted : Bool) (bytes : List ℕ)
    → tokens_from line quoted bytes ≡ record { line = line; text = take (word_len quoted bytes) bytes; left = length bytes } ∷ others_of (drop (word_len quoted bytes) bytes)
first_token line quoted [] = refl
first_token line quoted (b ∷ bs) = by_test (ends_word quoted b)
    (λ t. rw t refl)
    (λ t. rw (t, first_token line (is_quoted_after quoted b) bs) refl)

-- ---- the tokens are the text

-- the byte that ends a word is the one before the next
ending : (b : ℕ) (x y : Bool) → b == 10 ≡ x → b == 32 ≡ y → (quoted : Bool) → x || (y && not quoted) ≡ true
    → separator x ≡ b
ending b true y e f quoted h = sym (eqb-true b 10 e)
ending b false true e f quoted h = sym (eqb-true b 32 f)
ending b false false e f quoted h = absurd cc

-- the bytes of the first token go on with one more
more_bytes : (b c : ℕ) (bs : List ℕ) (ts : List Lexeme) → flat_map token_bytes ts ≡ c ∷ bs
    → flat_map token_bytes (with_byte b ts) ≡ c ∷ b ∷ bs
more_bytes b c bs [] h = absurd cc
more_bytes b c bs (t ∷ ts) h = let k : separator t.line ≡ c = cc in let l : t.text ++ flat_map token_bytes ts ≡ bs = cc in rw (k, l) refl

pub tokens_are_text : (line quoted : Bool) (bytes : List ℕ)
    → flat_map token_bytes (tokens_from line quoted bytes) ≡ separator line ∷ bytes
tokens_are_text line quoted [] = refl
tokens_are_text line quoted (b ∷ bs) = by_test (ends_word quoted b)
    (λ t. let s : separator (b == 10) ≡ b = ending b (b == 10) (b == 32) refl refl quoted t in rw (t, tokens_are_text (b == 10) false bs, s) refl)
    (λ t. rw t (more_bytes b (separator line) bs (tokens_from line (is_quoted_after quoted b) bs) (tokens_are_text line (is_quoted_after quoted b) bs)))
