-- Laws of pivoting.
--   mixed_zero     places of a mixture
--   sound_pivot    a pivot keeps a tableau sound
--   rising_pivot   the costs of the objective stay at least 0 where the place has the least ratio
use Rattle.std.proofs.Common.{◌≡◌, ℕ, ℤ, pos, ◌<◌, ◌≤◌, arith, refl, sym, ap, ◌∙◌, List, length, ⊎_elim}
use Rattle.std.specs.Prelude.{◌-ℤ◌, ◌*ℤ◌, ◌≤ℤ◌}
use Rattle.std.proofs.lemmas.Int.{ints}
use Rattle.std.proofs.lemmas.Bool.{cases_eq}
use Rattle.whole_numbers.specs.MultipleLaws.{times_times}
use Rattle.ipet_rows.specs.Firsts.{entry}
use Rattle.ipet_rows.specs.SumLaws.{times_difference}
use Rattle.ipet_rows.specs.DualityLaws.{times_rising}
use Rattle.simplex_rules.specs.Tableaus.{Generator, Tableau, number_at, basic_at}
use Rattle.simplex_rules.specs.Mixing.{IsMixed, IsSpanned, along}
use Rattle.simplex_rules.specs.MixingLaws.{along_times, spanned_mixed, spanned_times, zero_back, cancel_zero, cancel_above, cancel_at_least, product_above}
use Rattle.simplex_rules.specs.Pivoting.{IsCleared, IsPivot, IsSoundTableau}

times_nothing : (u z : ℤ) → z ≡ pos 0 → u *ℤ z ≡ pos 0
times_nothing u z e = rw e (omega (arith, ints))

-- places of a mixture
pub mixed_zero : (g a b : ℤ) (f h f' : ℕ → ℤ) (j : ℕ) → IsMixed g a b f h f' → f j ≡ pos 0 → h j ≡ pos 0 → f' j ≡ pos 0
mixed_zero g a b f h f' j m p q = cancel_zero g (f' j) m.divisor (omega (arith, ints, m.is j, times_nothing a (f j) p, times_nothing b (h j) q))

pub mixed_even : (g a b : ℤ) (f h f' : ℕ → ℤ) (e : ℕ) → IsMixed g a b f h f' → a *ℤ f e ≡ b *ℤ h e → f' e ≡ pos 0
mixed_even g a b f h f' e m even = cancel_zero g (f' e) m.divisor (omega (arith, ints, m.is e, even))

pub mixed_above : (g a b : ℤ) (f h f' : ℕ → ℤ) (j : ℕ) → IsMixed g a b f h f' → pos 1 ≤ℤ f j → h j ≡ pos 0
    → pos 1 ≤ℤ f' j
mixed_above g a b f h f' j m p q = cancel_above g (f' j) m.divisor (omega (arith, ints, m.is j, product_above a (f j) m.factor p, times_nothing b (h j) q))

-- a pivot keeps a tableau sound
pub sound_pivot : (gs : List Generator) (w : ℕ) (old new : Tableau) (r e : ℕ) (u : ℤ) → IsSoundTableau gs w old
    → IsPivot old new r e u → 2 ≤ e → e < w → IsSoundTableau gs w new
sound_pivot gs w old new r e u s v least most =
    let h = number_at new r in
    let same : (k : ℕ) → k < length new.rows → k < length old.rows = λ k below. rw (← v.count) below in
    let spanned_row : IsSpanned gs (number_at new r) = spanned_times gs u (number_at old r) (number_at new r) v.row (s.spans r v.place) in
    let flat_row : number_at new r 1 ≡ pos 0 = v.row 1 ∙ times_nothing u (number_at old r 1) (s.flat r v.place) in
    let here : (i : ℕ) → i < length new.rows → (i ≡ r → ⊥) → number_at new r (basic_at old i) ≡ pos 0 =
    λ i below d. v.row (basic_at old i) ∙ times_nothing u (number_at old r (basic_at old i)) (s.apart r i v.place (same i below) (λ (q : r ≡ i). d (sym q))) in
    record {
      spans = λ k below. ⊎_elim
          (λ (q : k ≡ r). rw q spanned_row)
          (λ (d : k ≡ r → ⊥). let c = v.others k (same k below) d in
          spanned_mixed gs c.g c.a c.b (number_at old k) (number_at new r) (number_at new k) c.mixed (s.spans k (same k below)) spanned_row)
          (cases_eq k r);
      spans_objective = let c = v.objective in
          spanned_mixed gs c.g c.a c.b (entry old.objective) (number_at new r) (entry new.objective) c.mixed s.spans_objective spanned_row;
      solves = λ x rows objective.
          let row_zero : along w (number_at new r) x ≡ pos 0 = rows r (rw v.count v.place) in
          s.solves x
          (λ k below. ⊎_elim
          (λ (q : k ≡ r). rw q
          (let one = along_times w u (number_at new r) (λ j. u *ℤ number_at new r j) x (λ j. refl) in
          let back : (j : ℕ) → number_at old r j ≡ u *ℤ number_at new r j = λ j.
          (let p : u *ℤ number_at new r j ≡ u *ℤ (u *ℤ number_at old r j) = ap (λ (t : ℤ). u *ℤ t) (v.row j) in
          let p2 : (u *ℤ u) *ℤ number_at old r j ≡ u *ℤ (u *ℤ number_at old r j) = times_times u u (number_at old r j) in
          let p3 : (u *ℤ u) *ℤ number_at old r j ≡ pos 1 *ℤ number_at old r j = ap (λ (t : ℤ). t *ℤ number_at old r j) v.unit in
          omega (arith, ints, p, p2, p3)) in
          along_times w u (number_at new r) (number_at old r) x back ∙ times_nothing u (along w (number_at new r) x) row_zero))
          (λ (d : k ≡ r → ⊥). let c = v.others k below d in
          zero_back w c.g c.a c.b (number_at old k) (number_at new r) (number_at new k) x c.mixed (rows k (rw v.count below)) row_zero)
          (cases_eq k r))
          (let c = v.objective in zero_back w c.g c.a c.b (entry old.objective) (number_at new r) (entry new.objective) x c.mixed objective row_zero);
      flat = λ k below. ⊎_elim
          (λ (q : k ≡ r). rw q flat_row)
          (λ (d : k ≡ r → ⊥). let c = v.others k (same k below) d in
          mixed_zero c.g c.a c.b (number_at old k) (number_at new r) (number_at new k) 1 c.mixed (s.flat k (same k below)) flat_row)
          (cases_eq k r);
      scale = let c = v.objective in mixed_above c.g c.a c.b (entry old.objective) (number_at new r) (entry new.objective) 1 c.mixed s.scale flat_row;
      least = λ k below. ⊎_elim
          (λ (q : k ≡ r). rw (q, v.basic) least)
          (λ (d : k ≡ r → ⊥). rw (v.keeps k (same k below) d) (s.least k (same k below)))
          (cases_eq k r);
      most = λ k below. ⊎_elim
          (λ (q : k ≡ r). rw (q, v.basic) most)
          (λ (d : k ≡ r → ⊥). rw (v.keeps k (same k below) d) (s.most k (same k below)))
          (cases_eq k r);
      own = λ k below. ⊎_elim
          (λ (q : k ≡ r). rw (q, v.basic) v.above)
          (λ (d : k ≡ r → ⊥). let c = v.others k (same k below) d in
          rw (v.keeps k (same k below) d)
          (mixed_above c.g c.a c.b (number_at old k) (number_at new r) (number_at new k) (basic_at old k) c.mixed (s.own k (same k below)) (here k below d)))
          (cases_eq k r);
      apart = λ k i below below' d. ⊎_elim
          (λ (q : i ≡ r).
          let dk : k ≡ r → ⊥ = λ (p : k ≡ r). d (p ∙ sym q) in
          let c = v.others k (same k below) dk in
          rw (q, v.basic) (mixed_even c.g c.a c.b (number_at old k) (number_at new r) (number_at new k) e c.mixed c.even))
          (λ (di : i ≡ r → ⊥). rw (v.keeps i (same i below') di)
          (⊎_elim
          (λ (q : k ≡ r). rw q (here i below' di))
          (λ (dk : k ≡ r → ⊥). let c = v.others k (same k below) dk in
          mixed_zero c.g c.a c.b (number_at old k) (number_at new r) (number_at new k) (basic_at old i) c.mixed (s.apart k i (same k below) (same i below') d) (here i below' di))
          (cases_eq k r)))
          (cases_eq i r);
      clear = λ k below. ⊎_elim
          (λ (q : k ≡ r). let c = v.objective in
          rw (q, v.basic) (mixed_even c.g c.a c.b (entry old.objective) (number_at new r) (entry new.objective) e c.mixed c.even))
          (λ (d : k ≡ r → ⊥). let c = v.objective in
          rw (v.keeps k (same k below) d)
          (mixed_zero c.g c.a c.b (entry old.objective) (number_at new r) (entry new.objective) (basic_at old k) c.mixed (s.clear k (same k below)) (here k below d)))
          (cases_eq k r);
    }

-- the costs of the objective stay at least 0 where the place has the least ratio
pub rising_pivot : (e : ℕ) (f h f' : ℕ → ℤ) (j : ℕ) → IsCleared e f h f' → pos 1 ≤ℤ h e → (f e *ℤ h j) ≤ℤ (f j *ℤ h e)
    → pos 0 ≤ℤ f' j
rising_pivot e f h f' j c above ratio =
    let one : c.a *ℤ (f e *ℤ h j) ≡ (c.b *ℤ h e) *ℤ h j = sym (times_times c.a (f e) (h j)) ∙ ap (λ (t : ℤ). t *ℤ h j) c.even in
    let two : (c.b *ℤ h e) *ℤ h j ≡ h e *ℤ (c.b *ℤ h j) =
    ap (λ (t : ℤ). t *ℤ h j) (let q : c.b *ℤ h e ≡ h e *ℤ c.b = omega (arith, ints) in q) ∙ times_times (h e) c.b (h j) in
    let three : c.a *ℤ (f j *ℤ h e) ≡ h e *ℤ (c.a *ℤ f j) =
    (let q : c.a *ℤ (f j *ℤ h e) ≡ (c.a *ℤ f j) *ℤ h e = sym (times_times c.a (f j) (h e)) in
    let q2 : (c.a *ℤ f j) *ℤ h e ≡ h e *ℤ (c.a *ℤ f j) = omega (arith, ints) in q ∙ q2) in
    let four : ((f e *ℤ h j) *ℤ c.a) ≤ℤ ((f j *ℤ h e) *ℤ c.a) = times_rising (f e *ℤ h j) (f j *ℤ h e) c.a ratio (omega (arith, ints, c.mixed.factor)) in
    let five : ((f e *ℤ h j) *ℤ c.a) ≡ c.a *ℤ (f e *ℤ h j) = omega (arith, ints) in
    let six : ((f j *ℤ h e) *ℤ c.a) ≡ c.a *ℤ (f j *ℤ h e) = omega (arith, ints) in
    let all : (h e *ℤ (c.b *ℤ h j)) ≤ℤ (h e *ℤ (c.a *ℤ f j)) = omega (arith, ints, one, two, three, four, five, six) in
    let left : pos 0 ≤ℤ (h e *ℤ ((c.a *ℤ f j) -ℤ (c.b *ℤ h j))) = omega (arith, ints, all, times_difference (h e) (c.a *ℤ f j) (c.b *ℤ h j)) in
    let bare : pos 0 ≤ℤ ((c.a *ℤ f j) -ℤ (c.b *ℤ h j)) = cancel_at_least (h e) ((c.a *ℤ f j) -ℤ (c.b *ℤ h j)) above left in
    cancel_at_least c.g (f' j) c.mixed.divisor (rw (c.mixed.is j) bare)
