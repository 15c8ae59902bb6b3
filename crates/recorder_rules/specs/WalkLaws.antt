-- Laws of walks.
--   shifted         a bit of a word whose low bits are shifted out
--   mark_found      where the rest of a word is not 0, its lowest bit is the next mark
--   rest_clear      where it is 0, the rest of the word has no mark
use Rattle.std.proofs.Common.{◌≡◌, ◌+◌, ◌-◌, ◌*◌, ◌/◌, ◌%◌, ◌^◌, ◌<◌, ◌≤◌, ◌==◌, ℕ, true, false, List, get_or, inl, inr, refl, sym, ap, ◌∙◌, subst, arith}
use Rattle.std.specs.Int.{bit_at, w64, trailing_zeros}
use Rattle.std.proofs.lemmas.Bool.{cases_lt}
use Rattle.std.proofs.lemmas.Nat.{shr-shr}
use Rattle.std.proofs.lemmas.Nat.Bits.{bit_at-trailing_zeros, bit_at_above, bit_at-zero}
use Rattle.recorder_rules.specs.BitWords.{is_set, is_marked, IsNextMark}

-- a bit of a word whose low bits are shifted out
pub shifted : (n k i : ℕ) → bit_at (n / 2 ^ k) i ≡ bit_at n (k + i)
shifted n k i = ap (λ (m : ℕ). m % 2) (shr-shr n k i)

-- where two places lie in one word
marked_in : (marks : List ℕ) (place i : ℕ) → place % 64 + i < 64
    → is_marked marks 0 (place + i) ≡ is_set (get_or marks (place / 64) 0) (place % 64 + i)
marked_in marks place i within =
    let word : 0 + (place + i) / 64 ≡ place / 64 = omega arith in
    let bit : (place + i) % 64 ≡ place % 64 + i = omega arith in
    rw (word, bit) refl

one_of : (n : ℕ) → n ≡ 1 → (n == 1) ≡ true
one_of n is = rw is refl

zero_of : (n : ℕ) → n ≡ 0 → (n == 1) ≡ false
zero_of n is = rw is refl

module _ (marks : List ℕ) (start place : ℕ) (least : start ≤ place) (before : (x : ℕ) → start ≤ x → x < place → is_marked marks 0 x ≡ false) where
  -- a place of the same word, by the rest of the word
  marked_rest : (i : ℕ) → place % 64 + i < 64
      → is_marked marks 0 (place + i) ≡ (bit_at (get_or marks (place / 64) 0 / 2 ^ (place % 64)) i == 1)
  marked_rest i within = marked_in marks place i within ∙ ap (λ (n : ℕ). n == 1) (sym (shifted (get_or marks (place / 64) 0) (place % 64) i))

  pub mark_found : get_or marks (place / 64) 0 < 2 ^ 64 → get_or marks (place / 64) 0 / 2 ^ (place % 64) < 2 ^ 64
      → 0 < get_or marks (place / 64) 0 / 2 ^ (place % 64)
      → IsNextMark marks start (place + trailing_zeros w64 (get_or marks (place / 64) 0 / 2 ^ (place % 64)))
  mark_found low small some =
      let found = bit_at-trailing_zeros w64 (get_or marks (place / 64) 0 / 2 ^ (place % 64)) some small in
      let zeros = trailing_zeros w64 (get_or marks (place / 64) 0 / 2 ^ (place % 64)) in
      let within : place % 64 + zeros < 64 = inside zeros found.1 in
      record {
        least = omega arith;
        has = λ more. marked_rest zeros within ∙ one_of (bit_at (get_or marks (place / 64) 0 / 2 ^ (place % 64)) zeros) found.1;
        none = λ x from below. elim (cases_lt x place) [
          | inl earlier ↦ before x from earlier
          | inr over ↦ subst (λ (y : ℕ). is_marked marks 0 y ≡ false) (let e : place + (x - place) ≡ x = omega arith in e)
              (marked_rest (x - place) (omega arith) ∙ zero_of (bit_at (get_or marks (place / 64) 0 / 2 ^ (place % 64)) (x - place)) (found.2 (x - place) (omega arith)))
        ];
      }
    where
      inside : (zeros : ℕ) → bit_at (get_or marks (place / 64) 0 / 2 ^ (place % 64)) zeros ≡ 1 → place % 64 + zeros < 64
      inside zeros is =
          elim (cases_lt (place % 64 + zeros) 64) [
            | inl within ↦ within
            | inr over ↦ absurd (let none = bit_at_above (get_or marks (place / 64) 0) 64 (place % 64 + zeros) low over in let some : bit_at (get_or marks (place / 64) 0) (place % 64 + zeros) ≡ 1 = sym (shifted (get_or marks (place / 64) 0) (place % 64) zeros) ∙ is in let bad : 0 ≡ 1 = sym none ∙ some in cc)
          ]

  pub rest_clear : get_or marks (place / 64) 0 / 2 ^ (place % 64) ≡ 0 → (x : ℕ) → start ≤ x → x < (place / 64 + 1) * 64
      → is_marked marks 0 x ≡ false
  rest_clear none x from below =
      elim (cases_lt x place) [
        | inl earlier ↦ before x from earlier
        | inr over ↦ subst (λ (y : ℕ). is_marked marks 0 y ≡ false) (let e : place + (x - place) ≡ x = omega arith in e)
            (marked_rest (x - place) (omega arith) ∙ zero_of (bit_at (get_or marks (place / 64) 0 / 2 ^ (place % 64)) (x - place)) (ap (λ (n : ℕ). bit_at n (x - place)) none ∙ bit_at-zero (x - place)))
      ]
