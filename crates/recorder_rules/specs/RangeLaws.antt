-- Laws of ranges.
--   ranged, ranged_out   what is in the range
--   row_range   the words of a row are those of the row's range
use Rattle.std.proofs.Common.{◌≡◌, ◌+◌, ◌-◌, ◌*◌, ◌<◌, ◌≤◌, ◌==◌, ℕ, true, false, inl, inr, refl, sym, ◌∙◌, subst, arith}
use Rattle.std.proofs.lemmas.Bool.{le-leb, lt-ltb, le-ltb, and_from, and_right, cases_eq, and_parts, leb-true, ltb-true, eq-eqb, ne_eqb}
use Rattle.std.proofs.lemmas.Nat.{same_from_place}
use Rattle.lists.specs.TestLaws.{by_test}
use Rattle.recorder_rules.specs.BitWords.{in_range}

pub ranged : (start n i : ℕ) → start ≤ i → i < start + n → in_range start n i ≡ true
ranged start n i least low = and_from _ _ (le-leb start i least) (lt-ltb i (start + n) low)

pub ranged_over : (start n i : ℕ) → start + n ≤ i → in_range start n i ≡ false
ranged_over start n i over = and_right _ _ (le-ltb i (start + n) over)

-- the words of a row are those of the row's range
pub row_range : (w a c q : ℕ) → q < w → in_range (a * w) w (c * w + q) ≡ (c == a)
row_range w a c q low =
    elim (cases_eq c a) [
      | inl same ↦ subst (λ (r : ℕ). in_range (r * w) w (c * w + q) ≡ (c == r)) same (ranged (c * w) w (c * w + q) (omega arith) (omega arith) ∙ sym (eq-eqb c c refl))
      | inr other ↦ by_test (in_range (a * w) w (c * w + q))
          (λ is. let both = and_parts _ _ is in
          let least = leb-true (a * w) (c * w + q) both.0 in
          let most = ltb-true (c * w + q) (a * w + w) both.1 in
          absurd (other (same_from_place c q a (c * w + q - a * w) w low (omega arith) (omega arith)).0))
          (λ clear. clear ∙ sym (ne_eqb c a other))
    ]
