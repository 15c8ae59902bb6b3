-- The piece that is cut is the longest that the bytes begin with.
--   IsCut p bytes   p is a piece that the bytes begin with, and no longer one is
use Rattle.std.proofs.Common.{◌≡◌, ℕ, zero, suc, ◌≤◌, ◌<◌, Bool, true, false, cond, ◌&&◌, ◌⊎◌, inl, inr, List, [], ◌∷◌, length, take, Option, Some, refl, sym, ap, subst, arith}
use Rattle.std.specs.Prelude.{◌==◌}
use Rattle.std.specs.Option.{is_some}
use Rattle.std.specs.List.{list_all}
use Rattle.std.specs.Char.{is_ascii_digit}
use Rattle.std.proofs.lemmas.Bool.{eqb-true, cases_eq, and_parts, or_cases}
use Rattle.std.proofs.lemmas.List.Sums.{prefix_len-le-length}
use Rattle.c_tokens.specs.declared.token.Kind.{Kind}
use Rattle.c_tokens.specs.declared.token.Kind.TheVariants as kinds
use Rattle.c_tokens.specs.Bytes.{is_blank, is_letter, is_word_byte, is_quote}
use Rattle.c_tokens.specs.Numbers.{marks_exponent, is_number_rest, number_len, starts_number}
use Rattle.c_tokens.specs.Kinds.{kind_of_one, opens_comment, opens_line_comment, is_wide, kind_of_more, kind_of}
use Rattle.c_tokens.specs.Cutting.{longer_piece, cut_piece}
use Rattle.c_tokens.specs.Tokens.{longest_within, longest}
use Rattle.c_tokens.proofs.Prefixes.{run_passes, run_most, number_goes_on, number_most, number_within}
use Rattle.c_tokens.proofs.Fitting.{Fits, by_tests, blank_fits, comment_fits, line_fits, run_fits, wide_fits, quote_fits, symbol_fits}

-- ---- what single bytes are

pub quote_alone : (b : ℕ) → is_quote b ≡ true → kind_of_one b ≡ kinds.OpenLiteral
quote_alone b h = elim (or_cases (b == 39) (b == 34) h) [
  | inl e ↦ subst (λ (b : ℕ). kind_of_one b ≡ kinds.OpenLiteral) (sym (eqb-true b 39 e)) refl
  | inr e ↦ subst (λ (b : ℕ). kind_of_one b ≡ kinds.OpenLiteral) (sym (eqb-true b 34 e)) refl
]

letter_alone : (b c : ℕ) → is_wide b c ≡ true → kind_of_one b ≡ kinds.Identifier
letter_alone b c h = subst (λ (b : ℕ). kind_of_one b ≡ kinds.Identifier) (sym (eqb-true b 76 (and_parts (b == 76) (is_quote c) h).0)) refl

number_alone : (b c : ℕ) (cs : List ℕ) → is_blank b ≡ false → is_letter b ≡ false → starts_number b c ≡ true
    → number_len false (c ∷ cs) ≡ 0 → kind_of_one b ≡ kinds.Number
number_alone b c cs blank letter h none = elim (or_cases (is_ascii_digit b) ((b == 46) && is_ascii_digit c) h) [
  | inl e ↦ rw (blank, letter, e) refl
  | inr e ↦ let digit : is_ascii_digit c ≡ true = (and_parts (b == 46) (is_ascii_digit c) e).1 in
      absurd (some (is_letter c) refl digit none)
]
  where
    some : (t : Bool) → is_letter c ≡ t → is_ascii_digit c ≡ true → number_len false (c ∷ cs) ≡ 0 → ⊥
    some true l d e = let f : suc (number_len (marks_exponent c) cs) ≡ 0 = (rw l at e) in omega arith
    some false l d e = let f : suc (number_len (marks_exponent c) cs) ≡ 0 = (rw (l, d) at e) in omega arith

-- ---- the piece of two and more bytes

longer_fits : (b c : ℕ) (cs : List ℕ) → Fits (kind_of_more b c) b cs (longer_piece b c cs)
longer_fits b c cs =
    let fits : (List ℕ → Option Kind) → Kind × ℕ → Type 0 = λ of p. Fits of b cs p in
    by_tests fits (is_blank b) _ _ _ _ (blank_fits b cs) (λ blank.
    by_tests fits (opens_comment b c) _ _ _ _ (λ _. comment_fits b cs) (λ _.
    by_tests fits (opens_line_comment b c) _ _ _ _ (λ _. line_fits b cs) (λ _.
    by_tests fits (is_wide b c) _ _ _ _ (λ h. wide_fits b cs c (letter_alone b c h)) (λ _.
    by_tests fits (is_letter b) _ _ _ _ (λ h. run_fits b cs (list_all is_word_byte) c kinds.Identifier _ (omega (arith, prefix_len-le-length is_word_byte (c ∷ cs))) (run_passes is_word_byte (c ∷ cs))
    (λ m le. run_most is_word_byte (c ∷ cs) m (omega arith)) (λ _. rw (blank, h) refl)) (λ letter.
    by_tests fits (starts_number b c) _ _ _ _ (λ h. run_fits b cs (is_number_rest false) c kinds.Number _ (omega (arith, number_within false (c ∷ cs))) (number_goes_on false (c ∷ cs))
    (λ m le. number_most false (c ∷ cs) m (omega arith)) (number_alone b c cs blank letter h)) (λ _.
    by_tests fits (is_quote b) _ _ _ _ (λ h. quote_fits b cs b c (quote_alone b h)) (λ _. symbol_fits b c cs)))))))

-- ---- every piece

pub record IsCut (p : Kind × ℕ) (bytes : List ℕ) : Type 0 where
  pub takes : 0 < p.1
  pub fits : p.1 ≤ length bytes
  pub known : kind_of (take p.1 bytes) ≡ Some p.0
  pub most : (m : ℕ) → m ≤ length bytes → is_some (kind_of (take m bytes)) ≡ true → m ≤ p.1

cut_longer : (b c : ℕ) (cs : List ℕ) (p : Kind × ℕ) → Fits (kind_of_more b c) b cs p → IsCut p (b ∷ c ∷ cs)
unfolding kind_of
cut_longer b c cs p h = record {
  takes = elim h.known [ inl k ↦ omega (arith, k.0) | inr k ↦ omega (arith, k.1) ];
  fits = omega (arith, h.within);
  known = elim h.known [
    | inl k ↦ rw k.0 (ap (λ (kind : Kind). Some kind) k.1)
    | inr k ↦ let two : p.1 ≡ suc (suc k.0) = omega (arith, k.1) in rw two k.2
  ];
  most = λ m le s. at_len m le s;
}
  where
    at_len : (m : ℕ) → m ≤ length (b ∷ c ∷ cs) → is_some (kind_of (take m (b ∷ c ∷ cs))) ≡ true → m ≤ p.1
    at_len zero le s = omega arith
    at_len (suc zero) le s = elim h.known [ inl k ↦ omega (arith, k.0) | inr k ↦ omega (arith, k.1) ]
    at_len (suc (suc k)) le s = omega (arith, h.most k (omega arith) s)

pub piece_is_cut : (b : ℕ) (bs : List ℕ) → IsCut (cut_piece (b ∷ bs)) (b ∷ bs)
unfolding cut_piece kind_of
piece_is_cut b [] = record { takes = omega arith; fits = omega arith; known = refl; most = λ m le s. omega arith }
piece_is_cut b (c ∷ cs) = cut_longer b c cs (longer_piece b c cs) (longer_fits b c cs)

-- ---- the longest

within_is : (bytes : List ℕ) (n c : ℕ) → n ≤ c → is_some (kind_of (take n bytes)) ≡ true
    → ((m : ℕ) → m ≤ c → is_some (kind_of (take m bytes)) ≡ true → m ≤ n) → longest_within c bytes ≡ n
within_is bytes n zero le known most = omega arith
within_is bytes n (suc c) le known most = by_test (is_some (kind_of (take (suc c) bytes))) refl (cases_eq n (suc c)) (λ lt. within_is bytes n c lt known (λ m h. most m (omega arith)))
  where
    by_test : (t : Bool) → is_some (kind_of (take (suc c) bytes)) ≡ t → (n ≡ suc c) ⊎ (n ≡ suc c → ⊥)
        → (n ≤ c → longest_within c bytes ≡ n)
        → cond t (suc c) (longest_within c bytes) ≡ n
    by_test true e o more = let le2 : suc c ≤ n = most (suc c) (omega arith) e in omega arith
    by_test false e (inl same) more = let k : is_some (kind_of (take (suc c) bytes)) ≡ true = subst (λ (n : ℕ). is_some (kind_of (take n bytes)) ≡ true) same known in absurd cc
    by_test false e (inr other) more = more (omega arith)

pub longest_is : (p : Kind × ℕ) (bytes : List ℕ) → IsCut p bytes → longest bytes ≡ p.1
unfolding longest
longest_is p bytes h = within_is bytes p.1 (length bytes) h.fits (ap is_some h.known) h.most
