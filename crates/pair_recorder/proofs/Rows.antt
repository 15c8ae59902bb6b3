-- Rows of bits to which others are added.
--   added_row      the bits of one row
use Rattle.std.proofs.Common.{◌≡◌, ◌+◌, ◌-◌, ◌*◌, ◌/◌, ◌%◌, ◌<◌, ◌==◌, ◌&&◌, ◌||◌, ℕ, Bool, true, false, cond, List, bit_or, get_or, inl, inr, refl, sym, ap, ◌∙◌, arith}
use Rattle.std.proofs.lemmas.Bool.{cases_eq, eq-eqb, ne_eqb}
use Rattle.recorder_rules.specs.BitWords.{is_set, is_marked, AreInRange}
use Rattle.recorder_rules.specs.BitLaws.{set_or}
use Rattle.recorder_rules.specs.RangeLaws.{row_range}

or_nothing : (x : Bool) → (x || false) ≡ x
or_nothing true = refl
or_nothing false = refl

pub added_row : (w k : ℕ) (met old new : List ℕ)
    → AreInRange (k * w) w (λ i. bit_or (get_or old i 0) (get_or met (0 + (i - k * w)) 0)) old new
    → (a b : ℕ) → b < 64 * w → is_marked new (a * w) b ≡ (is_marked old (a * w) b || ((a == k) && is_marked met 0 b))
added_row w k met old new changed a b low =
    ap (λ (v : ℕ). is_set v (b % 64)) (changed (a * w + b / 64) ∙ ap (λ (t : Bool). cond t (bit_or (get_or old (a * w + b / 64) 0) (get_or met (0 + (a * w + b / 64 - k * w)) 0)) (get_or old (a * w + b / 64) 0)) (row_range w k a (b / 64) (omega arith)))
    ∙ elim (cases_eq a k) [
      | inl same ↦ ap (λ (t : Bool). is_set (cond t (bit_or (get_or old (a * w + b / 64) 0) (get_or met (0 + (a * w + b / 64 - k * w)) 0)) (get_or old (a * w + b / 64) 0)) (b % 64)) (eq-eqb a k same)
          ∙ set_or (get_or old (a * w + b / 64) 0) (get_or met (0 + (a * w + b / 64 - k * w)) 0) (b % 64)
          ∙ ap (λ (i : ℕ). is_marked old (a * w) b || is_set (get_or met i 0) (b % 64)) (ap (λ (r : ℕ). 0 + (r * w + b / 64 - k * w)) same ∙ (let e : 0 + (k * w + b / 64 - k * w) ≡ 0 + b / 64 = omega arith in e))
          ∙ ap (λ (t : Bool). is_marked old (a * w) b || (t && is_marked met 0 b)) (sym (eq-eqb a k same))
      | inr apart ↦ ap (λ (t : Bool). is_set (cond t (bit_or (get_or old (a * w + b / 64) 0) (get_or met (0 + (a * w + b / 64 - k * w)) 0)) (get_or old (a * w + b / 64) 0)) (b % 64)) (ne_eqb a k apart)
          ∙ sym (or_nothing (is_marked old (a * w) b)) ∙ ap (λ (t : Bool). is_marked old (a * w) b || (t && is_marked met 0 b)) (sym (ne_eqb a k apart))
    ]
