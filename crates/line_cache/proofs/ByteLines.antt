-- The lines of a part are those of its bytes.
--   in_range, of_range   the members of a range
--   rises            a range rises
--   byte_of, line_of   each line of a part has a byte of it, and each byte its line
--   lines_of_bytes   both
use Rattle.std.proofs.Common.{◌≡◌, ℕ, zero, suc, ◌+◌, ◌-◌, ◌*◌, ◌/◌, ◌<◌, ◌≤◌, Contains, inl, inr, refl, sym, ◌∙◌, arith, ◌↔◌}
use Rattle.std.specs.Prelude.{◌==◌}
use Rattle.std.specs.List.{range_with_len}
use Rattle.std.specs.List.Sorted.{IsStrictlyIncreasing}
use Rattle.std.proofs.Math.Nat.{div-mul-le_self, mul-le-mul_right}
use Rattle.std.proofs.lemmas.Bool.{eqb-true, eqb-false, cases_lt}
use Rattle.std.proofs.lemmas.Nat.{le-div, div_below}
use Rattle.std.proofs.lemmas.List.FromFn.{length-range_with_len, get_or-range_with_len}
use Rattle.lists.specs.TestLaws.{by_test}
use Rattle.line_cache.specs.Lines.{first_line, end_line}
use Rattle.line_cache.specs.PartLines.{part_lines, HasByteIn}

-- ---- ranges

in_range : (a n l : ℕ) → Contains (range_with_len a n) l → (a ≤ l) × (l < a + n)
in_range a n l there =
    let long = length-range_with_len a n in
    let low : there.0 < n = omega (arith, there.1) in
    let at : a + there.0 ≡ l = sym (get_or-range_with_len a n there.0 l low) ∙ there.2 in
    (omega arith, omega arith)

of_range : (a n l : ℕ) → a ≤ l → l < a + n → Contains (range_with_len a n) l
of_range a n l from below =
    let long = length-range_with_len a n in
    (l - a, omega arith, get_or-range_with_len a n (l - a) l (omega arith) ∙ (omega arith))

pub rises : (line : ℕ) (part : ℕ × ℕ) → IsStrictlyIncreasing (part_lines line part)
rises line part = λ k low.
    let a : ℕ = first_line line part in
    let n : ℕ = end_line line part - first_line line part in
    let long = length-range_with_len a n in
    let one = get_or-range_with_len a n k 0 (omega arith) in
    let next = get_or-range_with_len a n (k + 1) 0 (omega arith) in
    omega arith

-- ---- bytes

same_line : (x l line : ℕ) → 0 < line → l * line ≤ x → x < (l + 1) * line → x / line ≡ l
same_line x l line some from below =
    let least = le-div l x line some from in
    let most = div_below x line (l + 1) some below in
    omega arith

-- the greater of the first byte of the part and the first byte of the line
byte_of : (line a b l : ℕ) → 0 < line → 1 ≤ b → a / line ≤ l → l ≤ (a + b - 1) / line → HasByteIn line (a, b) l
byte_of line a b l some many from to = elim (cases_lt a (l * line)) [
  | inl before ↦
      let last : l * line ≤ a + b - 1 = mul-le_of line l (a + b - 1) to in
      record { byte = l * line; begun = omega arith; within = omega arith; there = same_line (l * line) l line some (omega arith) (omega arith) }
  | inr behind ↦
      let up : l ≤ a / line = le-div l a line some behind in
      record { byte = a; begun = omega arith; within = omega arith; there = omega arith }
]
  where
    mul-le_of : (line l x : ℕ) → l ≤ x / line → l * line ≤ x
    mul-le_of line l x low = let down = div-mul-le_self x line in let times : l * line ≤ x / line * line = mul-le-mul_right line low in omega arith

line_of : (line a b l : ℕ) → 0 < line → HasByteIn line (a, b) l
    → (1 ≤ b) × (a / line ≤ l) × (l ≤ (a + b - 1) / line)
line_of line a b l some has =
    let x : ℕ = has.byte in
    let first = div-mul-le_self a line in
    let down = div-mul-le_self x line in
    let from : a / line ≤ x / line = le-div (a / line) x line some (omega (arith, has.begun)) in
    let to : x / line ≤ (a + b - 1) / line = le-div (x / line) (a + b - 1) line some (omega (arith, has.within)) in
    (omega (arith, has.begun, has.within), omega (arith, has.there), omega (arith, has.there))

-- ---- parts

some_of : (b : ℕ) → (b ≡ 0 → ⊥) → 1 ≤ b
some_of zero apart = absurd (apart refl)
some_of (suc b) apart = omega arith

pub lines_of_bytes : (line : ℕ) (part : ℕ × ℕ) (l : ℕ) → 0 < line
    → (Contains (part_lines line part) l ↔ HasByteIn line part l)
lines_of_bytes line part l some = by_test (part.1 == 0)
    (λ none. let zero_size = eqb-true part.1 0 none in rw none (
      λ there. absurd (let bounds = in_range 0 0 l there in omega (arith, bounds.1)),
      λ has. absurd (omega (arith, has.begun, has.within)),
    ))
    (λ test. let many = some_of part.1 (eqb-false part.1 0 test) in rw test (
      λ there.
          let bounds = in_range (part.0 / line) ((part.0 + part.1 - 1) / line + 1 - part.0 / line) l there in
          byte_of line part.0 part.1 l some many bounds.0 (omega (arith, bounds.0, bounds.1)),
      λ has.
          let bounds = line_of line part.0 part.1 l some has in
          of_range (part.0 / line) ((part.0 + part.1 - 1) / line + 1 - part.0 / line) l bounds.1 (omega (arith, bounds.1, bounds.2)),
    ))
