-- Laws of opening.
use Rattle.std.proofs.Common.{◌≡◌, ℕ, ℤ, pos, zero, suc, ◌<◌, ◌≤◌, arith, refl, sym, ap, ◌∙◌, List, [], ◌∷◌, length, ⊎_elim, ◌⊎◌, inl, inr}
use Rattle.std.specs.Prelude.{◌*ℤ◌, ◌≤ℤ◌}
use Rattle.std.proofs.lemmas.Int.{ints}
use Rattle.std.proofs.lemmas.Bool.{cases_eq}
use Rattle.ipet_rows.specs.Sums.{coefficient}
use Rattle.ipet_rows.specs.Programs.{Program, IsProgram}
use Rattle.simplex_rules.specs.Tableaus.{Generator, Held, Tableau, number_at, slacks_from, all_lines, width_of, first_tableau}
use Rattle.simplex_rules.specs.PivotRule.{pivoted, opening_at, opened}
use Rattle.simplex_rules.specs.Promise.{generator_at, lines_of, coefficient_at, mark_at, cost_of, Opens}
use Rattle.simplex_rules.specs.Mixing.{combination}
use Rattle.simplex_rules.specs.Pivoting.{IsSoundTableau}
use Rattle.simplex_rules.specs.PivotingLaws.{sound_pivot}
use Rattle.simplex_rules.specs.StepLaws.{pivoted_is}
use Rattle.simplex_rules.specs.FirstTableauLaws.{first_sound, held_count, held_is}
use Rattle.simplex_rules.specs.HandedOutLaws.{width_above}
use Rattle.simplex_rules.specs.Opening.{IsOpened}

-- Combinations with one part.

pub combination_none : (gs : List Generator) (f : ℕ → ℤ) (j : ℕ)
    → ((k : ℕ) → k < length gs → f (generator_at gs k).0 *ℤ coefficient (generator_at gs k).1 j ≡ pos 0)
    → combination gs f j ≡ pos 0
combination_none [] f j none = refl
combination_none (g ∷ gs) f j none = omega (arith, ints, none 0 (omega arith), combination_none gs f j (λ k below. none (suc k) (omega arith)))

pub combination_alone : (gs : List Generator) (f : ℕ → ℤ) (j i : ℕ) → i < length gs
    → ((k : ℕ) → k < length gs → (k ≡ i → ⊥) → f (generator_at gs k).0 *ℤ coefficient (generator_at gs k).1 j ≡ pos 0)
    → combination gs f j ≡ f (generator_at gs i).0 *ℤ coefficient (generator_at gs i).1 j
combination_alone [] f j i below none = absurd (omega arith)
combination_alone (g ∷ gs) f j zero below none =
    omega (arith, ints, combination_none gs f j (λ k less. none (suc k) (omega arith) (λ (q : suc k ≡ 0). absurd (omega arith))))
combination_alone (g ∷ gs) f j (suc i) below none =
    omega (
      arith,
      ints,
      none 0 (omega arith) (λ (q : 0 ≡ suc i). absurd (omega arith)),
      combination_alone gs f j i (omega arith) (λ k less d. none (suc k) (omega arith) (λ (q : suc k ≡ suc i). d (omega arith))),
    )

pub nothing_times : (u z : ℤ) → u ≡ pos 0 → u *ℤ z ≡ pos 0
nothing_times u z e = rw e (omega (arith, ints))

pub times_nothing : (u z : ℤ) → z ≡ pos 0 → u *ℤ z ≡ pos 0
times_nothing u z e = rw e (omega (arith, ints))

-- Which opening has a row.

pub record IsFound (os : List (ℕ × ℕ)) (m k : ℕ) : Type 0 where
  pub at_ : ℕ
  pub below : at_ < m
  pub same : k ≡ (opening_at os at_).0

pub find : (os : List (ℕ × ℕ)) (m k : ℕ) → IsFound os m k ⊎ ((i : ℕ) → i < m → k ≡ (opening_at os i).0 → ⊥)
find os zero k = inr (λ i below same. absurd (omega arith))
find os (suc m) k = ⊎_elim
    (λ (q : k ≡ (opening_at os m).0). inl (record { at_ = m; below = omega arith; same = q }))
    (λ (d : k ≡ (opening_at os m).0 → ⊥). ⊎_elim
    (λ (f : IsFound os m k). inl (record { at_ = f.at_; below = omega (arith, f.below); same = f.same }))
    (λ (none : (i : ℕ) → i < m → k ≡ (opening_at os i).0 → ⊥). inr (λ i below same. ⊎_elim
    (λ (q : i ≡ m). d (rw (← q) same)) (λ (x : i ≡ m → ⊥). none i (omega arith) same) (cases_eq i m)))
    (find os m k))
    (cases_eq k (opening_at os m).0)

pub rows_apart : (p : Program) (os : List (ℕ × ℕ)) (i k : ℕ) → Opens p os → i < length os → k < length os → (i ≡ k → ⊥)
    → (opening_at os i).0 ≡ (opening_at os k).0 → ⊥
rows_apart p os i k o below below' d same =
    let one : coefficient_at p (opening_at os k).0 (opening_at os k).1 ≡ pos 1 = o.own k below' in
    let none : coefficient_at p (opening_at os i).0 (opening_at os k).1 ≡ pos 0 = o.apart i k below below' d in
    let both : coefficient_at p (opening_at os i).0 (opening_at os k).1 ≡ coefficient_at p (opening_at os k).0 (opening_at os k).1 = ap (λ (r : ℕ). coefficient_at p r (opening_at os k).1) same in
    absurd (omega (arith, ints, one, none, both))

-- Before its pivot a row is a multiple of its first line.

row_number : (p : Program) (t : Tableau) (r j : ℕ) → IsSoundTableau (all_lines p) (width_of p) t → r < length t.rows
    → number_at t r j ≡ combination (lines_of p) (number_at t r) j
row_number p t r j s below = omega (arith, ints, (s.spans r below).is j, nothing_times (number_at t r 1) (cost_of p j) (s.flat r below))

mark_gone : (p : Program) (os : List (ℕ × ℕ)) (m i : ℕ) (t : Tableau) → Opens p os → m < length os → IsOpened p os m t
    → i < m
    → number_at t (opening_at os m).0 (mark_at p (opening_at os i).0) ≡ pos 0
mark_gone p os m i t o below x less =
    let r = (opening_at os m).0 in
    let q = (opening_at os i).0 in
    let e = (opening_at os i).1 in
    let r_below : (opening_at os m).0 < length t.rows = rw x.count (o.rows m below) in
    let q_below : (opening_at os i).0 < length t.rows = rw x.count (o.rows i (omega arith)) in
    let zero_ : number_at t (opening_at os m).0 (opening_at os i).1 ≡ pos 0 =
    rw (← x.bases i less) (x.sound.apart r q r_below q_below (rows_apart p os m i o below (omega arith) (λ (z : m ≡ i). absurd (omega arith)))) in
    let alone : combination (lines_of p) (number_at t (opening_at os m).0) (opening_at os i).1 ≡ number_at t (opening_at os m).0 (mark_at p (opening_at os i).0) *ℤ coefficient_at p (opening_at os i).0 (opening_at os i).1 =
    combination_alone (lines_of p) (number_at t r) e q (o.rows i (omega arith)) (λ k k_below d. ⊎_elim
    (λ (f : IsFound os m k). times_nothing (number_at t r (mark_at p k)) (coefficient_at p k e)
    (rw f.same (o.apart f.at_ i (omega (arith, f.below)) (omega arith) (λ (z : f.at_ ≡ i). d (f.same ∙ ap (λ (n : ℕ). (opening_at os n).0) z)))))
    (λ (none : (i : ℕ) → i < m → k ≡ (opening_at os i).0 → ⊥). ⊎_elim
    (λ (z : k ≡ (opening_at os m).0). times_nothing (number_at t r (mark_at p k)) (coefficient_at p k e) (rw z (o.apart m i below (omega arith) (λ (y : m ≡ i). absurd (omega arith)))))
    (λ (z : k ≡ (opening_at os m).0 → ⊥). nothing_times (number_at t r (mark_at p k)) (coefficient_at p k e)
    (rw (← x.others k k_below none) (x.sound.apart r k r_below (rw x.count k_below) (λ (y : r ≡ k). z (sym y)))))
    (cases_eq k r))
    (find os m k)) in
    let one : number_at t (opening_at os m).0 (mark_at p (opening_at os i).0) *ℤ coefficient_at p (opening_at os i).0 (opening_at os i).1 ≡ number_at t (opening_at os m).0 (mark_at p (opening_at os i).0) =
    ap (λ (z : ℤ). number_at t r (mark_at p q) *ℤ z) (o.own i (omega arith)) ∙ (let z : number_at t r (mark_at p q) *ℤ pos 1 ≡ number_at t r (mark_at p q) = omega (arith, ints) in z) in
    sym one ∙ sym alone ∙ sym (row_number p t r e x.sound r_below) ∙ zero_

opening_above : (p : Program) (os : List (ℕ × ℕ)) (m : ℕ) (t : Tableau) → Opens p os → m < length os → IsOpened p os m t
    → pos 1 ≤ℤ number_at t (opening_at os m).0 (opening_at os m).1
opening_above p os m t o below x =
    let r = (opening_at os m).0 in
    let e = (opening_at os m).1 in
    let r_below : (opening_at os m).0 < length t.rows = rw x.count (o.rows m below) in
    let alone : combination (lines_of p) (number_at t (opening_at os m).0) (opening_at os m).1 ≡ number_at t (opening_at os m).0 (mark_at p (opening_at os m).0) *ℤ coefficient_at p (opening_at os m).0 (opening_at os m).1 =
    combination_alone (lines_of p) (number_at t r) e r (o.rows m below) (λ k k_below d. nothing_times (number_at t r (mark_at p k)) (coefficient_at p k e) (⊎_elim
    (λ (f : IsFound os m k). rw f.same (mark_gone p os m f.at_ t o below x f.below))
    (λ (none : (i : ℕ) → i < m → k ≡ (opening_at os i).0 → ⊥). rw (← x.others k k_below none) (x.sound.apart r k r_below (rw x.count k_below) (λ (y : r ≡ k). d (sym y))))
    (find os m k))) in
    let one : number_at t (opening_at os m).0 (mark_at p (opening_at os m).0) *ℤ coefficient_at p (opening_at os m).0 (opening_at os m).1 ≡ number_at t (opening_at os m).0 (mark_at p (opening_at os m).0) =
    ap (λ (z : ℤ). number_at t r (mark_at p r) *ℤ z) (o.own m below) ∙ (let z : number_at t r (mark_at p r) *ℤ pos 1 ≡ number_at t r (mark_at p r) = omega (arith, ints) in z) in
    let own : pos 1 ≤ℤ number_at t (opening_at os m).0 (mark_at p (opening_at os m).0) =
    rw (← x.others r (o.rows m below) (λ i less. rows_apart p os m i o below (omega arith) (λ (z : m ≡ i). absurd (omega arith)))) (x.sound.own r r_below) in
    omega (arith, ints, row_number p t r e x.sound r_below, alone, one, own)

pub opened_is : (p : Program) (os : List (ℕ × ℕ)) (m : ℕ) → IsProgram p → Opens p os → m ≤ length os
    → IsOpened p os m (opened os m (first_tableau p))
opened_is p os zero is o most = record {
  sound = first_sound p is;
  count = held_count (width_of p) (lines_of p);
  bases = λ i below. absurd (omega arith);
  others = λ k below none. ap (λ (h : Held). h.basic) (held_is (width_of p) (lines_of p) k below);
}
opened_is p os (suc m) is o most =
    let x = opened_is p os m is o (omega arith) in
    let t = opened os m (first_tableau p) in
    let r = (opening_at os m).0 in
    let e = (opening_at os m).1 in
    let below : m < length os = omega arith in
    let r_below : (opening_at os m).0 < length (opened os m (first_tableau p)).rows = rw x.count (o.rows m below) in
    let above : pos 1 ≤ℤ (pos 1 *ℤ number_at (opened os m (first_tableau p)) (opening_at os m).0 (opening_at os m).1) = omega (arith, ints, opening_above p os m t o below x) in
    let v = pivoted_is (all_lines p) (width_of p) t r e (pos 1) x.sound r_below refl above in
    let wide = width_above p.rows (slacks_from p) in
    record {
      sound = sound_pivot (all_lines p) (width_of p) t (pivoted (pos 1) r e t) r e (pos 1) x.sound v (o.least m below) (omega (arith, o.most m below, wide));
      count = v.count ∙ x.count;
      bases = λ i less. ⊎_elim
          (λ (q : i ≡ m). rw q v.basic)
          (λ (d : i ≡ m → ⊥). v.keeps (opening_at os i).0 (rw x.count (o.rows i (omega arith))) (rows_apart p os i m o (omega arith) below d) ∙ x.bases i (omega arith))
          (cases_eq i m);
      others = λ k k_below none. v.keeps k (rw x.count k_below) (none m (omega arith)) ∙ x.others k k_below (λ i less. none i (omega arith));
    }
