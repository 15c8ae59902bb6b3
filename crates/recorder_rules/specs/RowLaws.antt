-- Laws of rows.
--   rowwise_next   before the first row, past one row, and at the end
--   row_low        the words of a row are those of the table
--   row_end   a row lies in the table
use Rattle.std.proofs.Common.{◌≡◌, ◌≢◌, ◌+◌, ◌*◌, ◌<◌, ◌≤◌, ◌==◌, ℕ, Bool, cond, List, length, get_or, inl, inr, refl, sym, ap, ◌∙◌, subst, arith}
use Rattle.std.proofs.lemmas.Bool.{cases_lt, cases_eq, eq-eqb, ne_eqb}
use Rattle.std.proofs.Math.Nat.{mul-le-mul_right, add-mul}
use Rattle.recorder_rules.specs.BitWords.{is_marked, AreInRange, IsNextMark, IsRowwise}
use Rattle.recorder_rules.specs.RangeLaws.{row_range}

-- a row lies in the table
pub row_end : (a w count : ℕ) → a < count → a * w + w ≤ count * w
row_end a w count low = let e : (a + 1) * w ≤ count * w = mul-le-mul_right w (let more : a + 1 ≤ count = omega arith in more) in let f = add-mul a 1 w in omega arith

pub row_low : (a w q count : ℕ) → a < count → q < w → a * w + q < count * w
row_low a w q count low within = let e = row_end a w count low in omega arith

module _ (count w : ℕ) (marks : List ℕ) (f : ℕ → ℕ) (old : List ℕ) (all : count ≤ 64 * length marks) where
  pub rowwise_next : (mid new : List ℕ) (place n : ℕ) (g : ℕ → ℕ) → place < count → IsNextMark marks (place + 1) n
      → AreInRange (place * w) w g mid new
      → ((q : ℕ) → q < w → g (place * w + q) ≡ f (place * w + q)) → IsRowwise count w marks f old mid place → IsRowwise count w marks f old new n
  rowwise_next mid new place n g low next changed same so_far = record {
    done = λ a q below within inside. elim (cases_eq a place) [
      | inl here ↦ subst (λ (r : ℕ). get_or new (r * w + q) 0 ≡ cond (is_marked marks 0 r) (f (r * w + q)) (get_or old (r * w + q) 0)) (sym here)
          (step place q inside ∙ ap (λ (b : Bool). cond b (g (place * w + q)) (get_or mid (place * w + q) 0)) (eq-eqb place place refl) ∙ same q inside
          ∙ ap (λ (b : Bool). cond b (f (place * w + q)) (get_or old (place * w + q) 0)) (sym (so_far.here low)))
      | inr other ↦ step a q inside ∙ ap (λ (b : Bool). cond b (g (a * w + q)) (get_or mid (a * w + q) 0)) (ne_eqb a place other) ∙ before a q other below within inside
    ];
    rest = λ a q over inside.
        step a q inside ∙ ap (λ (b : Bool). cond b (g (a * w + q)) (get_or mid (a * w + q) 0)) (ne_eqb a place (λ e. let least = next.least in absurd (let more : place + 1 ≤ a = omega arith in omega arith)))
        ∙ so_far.rest a q (let least = next.least in omega arith) inside;
    here = λ more. next.has (omega arith);
  }
    where
      step : (a q : ℕ) → q < w → get_or new (a * w + q) 0 ≡ cond (a == place) (g (a * w + q)) (get_or mid (a * w + q) 0)
      step a q inside = changed (a * w + q) ∙ ap (λ (b : Bool). cond b (g (a * w + q)) (get_or mid (a * w + q) 0)) (row_range w place a q inside)

      before : (a q : ℕ) → a ≢ place → a < n → a < count → q < w
          → get_or mid (a * w + q) 0 ≡ cond (is_marked marks 0 a) (f (a * w + q)) (get_or old (a * w + q) 0)
      before a q other below within inside =
          elim (cases_lt a place) [
            | inl earlier ↦ so_far.done a q earlier within inside
            | inr over ↦ so_far.rest a q over inside ∙ ap (λ (b : Bool). cond b (f (a * w + q)) (get_or old (a * w + q) 0)) (sym (next.none a (omega arith) below))
          ]
