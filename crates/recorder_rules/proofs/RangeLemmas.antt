-- Laws of ranges.
--   range_more   before the first word, and one word further
--   one_only      the index of a word in a range that has one more
use Rattle.std.proofs.Common.{◌≡◌, ◌≢◌, ◌+◌, ◌<◌, ℕ, Bool, false, cond, List, length, get_or, set, inl, inr, sym, ap, ◌∙◌, subst, arith}
use Rattle.std.proofs.lemmas.Bool.{lt-leb, and_left, cases_lt, cases_eq}
use Rattle.std.proofs.lemmas.List.{get_or-set_same, get_or-set_other}
use Rattle.recorder_rules.specs.BitWords.{in_range, AreInRange}
use Rattle.recorder_rules.specs.RangeLaws.{ranged, ranged_over}

pub ranged_below : (start n i : ℕ) → i < start → in_range start n i ≡ false
ranged_below start n i below = and_left _ _ (lt-leb start i below)

-- one more place in the range, and others as before
same_range : (start n i : ℕ) → i ≢ start + n → in_range start (n + 1) i ≡ in_range start n i
same_range start n i other =
    elim (cases_lt i start) [
      | inl below ↦ ranged_below start (n + 1) i below ∙ sym (ranged_below start n i below)
      | inr over ↦ elim (cases_lt i (start + n)) [
        | inl low ↦ ranged start (n + 1) i over (omega arith) ∙ sym (ranged start n i over low)
        | inr high ↦ ranged_over start (n + 1) i (omega arith) ∙ sym (ranged_over start n i high)
      ]
    ]

pub range_more : (start n : ℕ) (f : ℕ → ℕ) (old mid : List ℕ) (v : ℕ) → start + n < length mid
    → AreInRange start n f old mid → v ≡ f (start + n) → AreInRange start (n + 1) f old (set mid (start + n) v)
range_more start n f old mid v low so_far is i =
    elim (cases_eq i (start + n)) [
      | inl here ↦ subst (λ (j : ℕ). get_or (set mid (start + n) v) j 0 ≡ cond (in_range start (n + 1) j) (f j) (get_or old j 0)) (sym here)
          (get_or-set_same mid (start + n) v 0 low ∙ is ∙ ap (λ (b : Bool). cond b (f (start + n)) (get_or old (start + n) 0)) (sym (ranged start (n + 1) (start + n) (omega arith) (omega arith))))
      | inr other ↦ get_or-set_other mid (start + n) i v 0 other ∙ so_far i ∙ ap (λ (b : Bool). cond b (f i) (get_or old i 0)) (sym (same_range start n i other))
    ]
