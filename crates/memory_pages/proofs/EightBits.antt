-- Words of 8 bits in normal form, by their low end, width and step.
--   norm_itself    words in normal form stay as they are
--   numbers_by, words_by   numbers, and words of 8 bits, by their parts
--   norm_by, one_by        words in normal form are those that norm gives, and that one word is
--   are_few                ends, width and step of words of 8 bits are small
use Rattle.std.proofs.Common.{◌≡◌, ◌∙◌, ap, sym, subst, ℕ, ℤ, pos, neg_ℤ, ◌≤◌, arith}
use Rattle.std.specs.Prelude.{◌+ℤ◌, ◌-ℤ◌, ◌≤ℤ◌, ◌<ℤ◌}
use Rattle.std.proofs.lemmas.Int.{ints}
use Rattle.progressions.specs.declared.ends.Progression.{Progression}
use Rattle.progressions.specs.Progressions.{IsPlaced, half, lone}
use Rattle.progressions.specs.ProgressionLaws.{halves, step_width}
use Rattle.progressions.specs.Images.{moved}
use Rattle.strided_rules.specs.Strides.{Stride, IsStride, centered, norm, one_word}
use Rattle.memory_pages.specs.KeptBytes.{eight}
use Rattle.strided_rules.specs.PlacedLaws.{centered_range, centered_same, by_distance, norm_once}

-- a number of the range is the one that differs from it by a multiple
central : (w : ℕ) (n : ℤ) → 1 ≤ w → neg_ℤ (half w) ≤ℤ n → n <ℤ half w → centered w n ≡ n
central w n positive low high =
    let range = centered_range w n positive in
    let two = halves w positive in
    sym (by_distance w n (centered w n) (centered_same w n) (omega (arith, ints, range.0, two)) (omega (arith, ints, range.1, two)))

stays : (p : Progression) (d : ℤ) → d ≡ pos 0 → moved d p ≡ p
stays p d none =
    let low : p.lo +ℤ d ≡ p.lo = omega (arith, ints, none) in
    let high : p.hi +ℤ d ≡ p.hi = omega (arith, ints, none) in
    λ i. record { lo = low i; hi = high i; step = p.step }

-- numbers in normal form stay as they are
pub norm_itself : (w : ℕ) (p : Progression) → 1 ≤ w → IsPlaced w p → norm w p ≡ p
norm_itself w p positive placed =
    let same = central w p.lo positive placed.low placed.high in
    norm_once w p placed.once ∙ stays p (centered w p.lo -ℤ p.lo) (omega (arith, ints, same))

-- numbers by their ends and their step, and the words of 8 bits that they are
abbrev pub numbers_of : ℤ → ℤ → ℤ → Progression
numbers_of lo hi step = record { lo = lo; hi = hi; step = step }

abbrev pub words_with : Progression → Stride
words_with p = record { size = 8; numbers = p }

-- the numbers of parts that are equal
pub numbers_by : (lo : ℤ) (width step : ℕ) (l h s : ℤ) → l ≡ lo → h ≡ lo +ℤ pos width → s ≡ pos step
    → numbers_of l h s ≡ (eight lo width step).numbers
numbers_by lo width step l h s low high stepped = λ i. record { lo = low i; hi = high i; step = stepped i }

-- words by their parts
pub words_by : (words : Stride) (lo : ℤ) (width step : ℕ) → words.size ≡ 8 → lo ≡ words.numbers.lo
    → pos width ≡ words.numbers.hi -ℤ words.numbers.lo → pos step ≡ words.numbers.step
    → eight lo width step ≡ words
words_by words lo width step size low wide stepped =
    let high : lo +ℤ pos width ≡ words.numbers.hi = omega (arith, ints, low, wide) in
    λ i. record { size = sym size i; numbers = record { lo = low i; hi = high i; step = stepped i } }

-- words in normal form are the ones that norm gives
pub norm_by : (lo : ℤ) (width step : ℕ) (p : Progression) → IsStride (eight lo width step)
    → p ≡ (eight lo width step).numbers
    → words_with (norm 8 p) ≡ eight lo width step
norm_by lo width step p kept same = ap words_with (ap (norm 8) same ∙ norm_itself 8 (eight lo width step).numbers kept.size.least kept.placed)

-- one word from 0 on
pub one_by : (lo : ℤ) (width step t : ℕ) → IsStride (eight lo width step) → width ≡ 0 → pos t ≡ lo
    → one_word 8 t ≡ eight lo width step
one_by lo width step t kept one same =
    let high : pos t ≡ lo +ℤ pos width = omega (arith, ints, one, same) in
    let alone : lo ≡ lo +ℤ pos width = omega (arith, ints, one) in
    norm_by lo width step (lone (pos t)) kept (numbers_by lo width step (pos t) (pos t) (pos 0) same high (sym (kept.placed.progression.lone alone)))

-- ends, width and step of words of 8 bits
pub record AreFew (p : Progression) : Type 0 where
  pub low : neg_ℤ (pos 128) ≤ℤ p.lo
  pub high : p.lo <ℤ pos 128
  pub order : p.lo ≤ℤ p.hi
  pub once : (p.hi -ℤ p.lo) <ℤ pos 256
  pub rising : pos 0 ≤ℤ p.step
  pub thin : p.step <ℤ pos 256

few_of_eight : (p : Progression) → IsPlaced 8 p → AreFew p
few_of_eight p placed = record {
  low = placed.low;
  high = placed.high;
  order = placed.progression.order;
  once = placed.once;
  rising = placed.progression.rising;
  thin = omega (arith, ints, step_width p placed.progression, placed.once);
}

pub are_few : (words : Stride) → words.size ≡ 8 → IsStride words → AreFew words.numbers
are_few words size kept = few_of_eight words.numbers (subst (λ (w : ℕ). IsPlaced w words.numbers) size kept.placed)
