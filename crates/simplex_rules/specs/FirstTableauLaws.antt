-- Laws of first tableau.
--   spread_is   a spread line has the terms' numbers at all places
use Rattle.std.proofs.Common.{◌≡◌, ℕ, ℤ, pos, zero, suc, ◌+◌, ◌<◌, ◌≤◌, arith, refl, sym, ap, ◌∙◌, List, [], ◌∷◌, length, ⊎_elim, Bool, true, false, subst}
use Rattle.std.specs.Prelude.{◌*ℤ◌, neg_ℤ}
use Rattle.std.proofs.lemmas.Int.{ints}
use Rattle.std.proofs.lemmas.Bool.{cases_eq, cases_lt}
use Rattle.ipet_rows.specs.Sums.{coefficient}
use Rattle.ipet_rows.specs.Programs.{Row, Program, IsProgram, IsWithin, row_at}
use Rattle.ipet_rows.specs.Firsts.{entry}
use Rattle.ipet_rows.specs.SumLaws.{term_here, term_elsewhere, total_same, total_terms}
use Rattle.simplex_rules.specs.Lines.{spread}
use Rattle.simplex_rules.specs.Tableaus.{Generator, Held, held_at, number_at, basic_at, placed, turned, slack_line, row_lines, next_slack, generators, width_from, cost_terms, objective_line, slacks_from, all_lines, width_of, held_of, first_tableau}
use Rattle.simplex_rules.specs.Promise.{generator_at}
use Rattle.simplex_rules.specs.Mixing.{combination, along}
use Rattle.simplex_rules.specs.Pivoting.{IsSoundTableau, AreZero}
use Rattle.simplex_rules.specs.FirstLineLaws.{coefficient_placed_low, cost_terms_low}
use Rattle.simplex_rules.specs.HandedOutLaws.{width_above}
use Rattle.simplex_rules.specs.FirstTableau.{IsOwn, AreMarked}

-- Terms within a width.

pub beyond : (n : ℕ) (ts : List (ℕ × ℤ)) (j : ℕ) → IsWithin n ts → n ≤ j → coefficient ts j ≡ pos 0
beyond n [] j within past = refl
beyond n (t ∷ ts) j within past =
    omega (arith, ints, term_elsewhere t.0 j t.1 (λ (q : t.0 ≡ j). absurd (omega (arith, within.0))), beyond n ts j within.1 past)

pub within_more : (n m : ℕ) (ts : List (ℕ × ℤ)) → IsWithin n ts → n ≤ m → IsWithin m ts
within_more n m [] within more = tt
within_more n m (t ∷ ts) within more = (omega (arith, within.0), within_more n m ts within.1 more)

within_placed : (n : ℕ) (ts : List (ℕ × ℤ)) → IsWithin n ts → IsWithin (suc (suc n)) (placed ts)
within_placed n [] within = tt
within_placed n (t ∷ ts) within = (omega (arith, within.0), within_placed n ts within.1)

within_turned : (n : ℕ) (ts : List (ℕ × ℤ)) → IsWithin n ts → IsWithin n (turned ts)
within_turned n [] within = tt
within_turned n (t ∷ ts) within = (within.0, within_turned n ts within.1)

pub within_costs : (cs : List ℕ) (j : ℕ) → IsWithin (j + length cs) (cost_terms cs j)
within_costs [] j = tt
within_costs (c ∷ cs) j = (
  omega arith,
  (let q : j + suc (length cs) ≡ suc j + length cs = omega arith in
      subst (λ (n : ℕ). IsWithin n (cost_terms cs (suc j))) (sym q) (within_costs cs (suc j))),
)

entry_spread : (n j : ℕ) (ts : List (ℕ × ℤ)) (i : ℕ) → i < n → entry (spread n j ts) i ≡ coefficient ts (j + i)
entry_spread zero j ts i below = absurd (omega arith)
entry_spread (suc n) j ts zero below = ap (λ (k : ℕ). coefficient ts k) (let q : j ≡ j + 0 = omega arith in q)
entry_spread (suc n) j ts (suc i) below = entry_spread n (suc j) ts i (omega arith) ∙ ap (λ (k : ℕ). coefficient ts k) (let q : suc j + i ≡ j + suc i = omega arith in q)

entry_past : (n j : ℕ) (ts : List (ℕ × ℤ)) (i : ℕ) → n ≤ i → entry (spread n j ts) i ≡ pos 0
entry_past zero j ts i past = refl
entry_past (suc n) j ts zero past = absurd (omega arith)
entry_past (suc n) j ts (suc i) past = entry_past n (suc j) ts i (omega arith)

-- a spread line has the terms' numbers at all places
pub spread_is : (w : ℕ) (ts : List (ℕ × ℤ)) (i : ℕ) → IsWithin w ts → entry (spread w 0 ts) i ≡ coefficient ts i
spread_is w ts i within = ⊎_elim
    (λ (below : i < w). entry_spread w 0 ts i below ∙ ap (λ (k : ℕ). coefficient ts k) (let q : 0 + i ≡ i = omega arith in q))
    (λ (past : w ≤ i). entry_past w 0 ts i past ∙ sym (beyond w ts i within past))
    (cases_lt i w)

-- Generators with marks of their own.

slack_own : (right : ℤ) (ts : List (ℕ × ℤ)) (cols s w : ℕ) → IsWithin cols ts → suc (suc cols) ≤ s → s < w
    → IsOwn (suc (suc cols)) w (slack_line right ts s)
slack_own right ts cols s w within least most =
    let in_place = within_placed cols ts within in
    record {
      own = omega (arith, ints, term_elsewhere 0 s right (λ (q : 0 ≡ s). absurd (omega arith)), term_here s s (pos 1) refl, beyond (suc (suc cols)) (placed ts) s in_place least);
      others = λ j past d. omega (arith, ints, term_elsewhere 0 j right (λ (q : 0 ≡ j). absurd (omega arith)), term_elsewhere s j (pos 1) (λ (q : s ≡ j). d (sym q)), beyond (suc (suc cols)) (placed ts) j in_place past);
      flat = omega (arith, ints, term_elsewhere 0 1 right (λ (q : 0 ≡ 1). absurd (omega arith)), term_elsewhere s 1 (pos 1) (λ (q : s ≡ 1). absurd (omega arith)), coefficient_placed_low ts 1 (omega arith));
      within = (omega arith, (most, within_more (suc (suc cols)) w (placed ts) in_place (omega arith)));
      most = most;
    }

marked_step : (b : Bool) (r : Row) (cols s w : ℕ) (more : List Generator) → IsWithin cols r.terms → suc (suc cols) ≤ s
    → next_slack b s ≤ w
    → AreMarked (suc (suc cols)) w (next_slack b s) more → AreMarked (suc (suc cols)) w s (row_lines b r s more)
marked_step false r cols s w more within least most rest = (omega arith, slack_own r.right r.terms cols s w within least (omega arith), rest)
marked_step true r cols s w more within least most rest = (
  omega arith,
  slack_own r.right r.terms cols s w within least (omega arith),
  (omega arith, slack_own (neg_ℤ r.right) (turned r.terms) cols (suc s) w (within_turned cols r.terms within) (omega arith) (omega arith), rest),
)

next_most : (b : Bool) (s : ℕ) → s ≤ next_slack b s
next_most true s = omega arith
next_most false s = omega arith

pub marked : (rs : List Row) (cols s w : ℕ) → ((k : ℕ) → IsWithin cols (row_at rs k).terms) → suc (suc cols) ≤ s
    → width_from rs s ≤ w → AreMarked (suc (suc cols)) w s (generators rs s)
marked [] cols s w within least most = tt
marked (r ∷ rs) cols s w within least most =
    let next_ = next_slack r.equation s in
    marked_step r.equation r cols s w (generators rs next_) (within 0) least (omega (arith, width_above rs next_, most))
    (marked rs cols next_ w (λ k. within (suc k)) (omega (arith, next_most r.equation s)) most)

pub held_count : (w : ℕ) (gs : List Generator) → length (held_of w gs) ≡ length gs
held_count w [] = refl
held_count w (g ∷ gs) = ap suc (held_count w gs)

pub held_is : (w : ℕ) (gs : List Generator) (k : ℕ) → k < length gs
    → held_at (held_of w gs) k ≡ record { basic = (generator_at gs k).0; line = spread w 0 (generator_at gs k).1 }
held_is w [] k below = absurd (omega arith)
held_is w (g ∷ gs) zero below = refl
held_is w (g ∷ gs) (suc k) below = held_is w gs k (omega arith)

pub own_at : (n w s : ℕ) (gs : List Generator) (k : ℕ) → AreMarked n w s gs → k < length gs
    → IsOwn n w (generator_at gs k)
own_at n w s [] k m below = absurd (omega arith)
own_at n w s (g ∷ gs) zero m below = m.1
own_at n w s (g ∷ gs) (suc k) m below = own_at n w (suc g.0) gs k m.2 (omega arith)

pub mark_least : (n w s : ℕ) (gs : List Generator) (k : ℕ) → AreMarked n w s gs → k < length gs
    → s ≤ (generator_at gs k).0
mark_least n w s [] k m below = absurd (omega arith)
mark_least n w s (g ∷ gs) zero m below = m.0
mark_least n w s (g ∷ gs) (suc k) m below = omega (arith, m.0, mark_least n w (suc g.0) gs k m.2 (omega arith))

marks_rise : (n w s : ℕ) (gs : List Generator) (k i : ℕ) → AreMarked n w s gs → k < i → i < length gs
    → (generator_at gs k).0 < (generator_at gs i).0
marks_rise n w s [] k i m less below = absurd (omega arith)
marks_rise n w s (g ∷ gs) k zero m less below = absurd (omega arith)
marks_rise n w s (g ∷ gs) zero (suc i) m less below = mark_least n w (suc g.0) gs i m.2 (omega arith)
marks_rise n w s (g ∷ gs) (suc k) (suc i) m less below = marks_rise n w (suc g.0) gs k i m.2 (omega arith) (omega arith)

pub marks_apart : (n w s : ℕ) (gs : List Generator) (k i : ℕ) → AreMarked n w s gs → k < length gs → i < length gs
    → (k ≡ i → ⊥) → (generator_at gs i).0 ≡ (generator_at gs k).0 → ⊥
marks_apart n w s gs k i m below below' d same = ⊎_elim
    (λ (less : k < i). absurd (omega (arith, marks_rise n w s gs k i m less below', same)))
    (λ (more : i ≤ k). absurd (omega (arith, marks_rise n w s gs i k m (⊎_elim (λ (q : k ≡ i). absurd (d q)) (λ (x : k ≡ i → ⊥). let h : i < k = omega arith in h) (cases_eq k i)) below, same)))
    (cases_lt k i)

nothing_times : (u z : ℤ) → u ≡ pos 0 → u *ℤ z ≡ pos 0
nothing_times u z e = rw e (omega (arith, ints))

-- a line that is 0 at each mark from s on
none_spanned : (n w s : ℕ) (gs : List Generator) (f : ℕ → ℤ) (i : ℕ) → AreMarked n w s gs
    → ((j : ℕ) → s ≤ j → f j ≡ pos 0) → combination gs f i ≡ pos 0
none_spanned n w s [] f i m none = refl
none_spanned n w s (g ∷ gs) f i m none =
    omega (arith, ints, nothing_times (f g.0) (coefficient g.1 i) (none g.0 m.0), none_spanned n w (suc g.0) gs f i m.2 (λ j past. none j (omega (arith, m.0))))

-- a generator is itself
own_spanned : (n w s : ℕ) (gs : List Generator) (k i : ℕ) → n ≤ s → AreMarked n w s gs → k < length gs
    → combination gs (coefficient (generator_at gs k).1) i ≡ coefficient (generator_at gs k).1 i
own_spanned n w s [] k i least m below = absurd (omega arith)
own_spanned n w s (g ∷ gs) zero i least m below =
    let rest : combination gs (coefficient g.1) i ≡ pos 0 = none_spanned n w (suc g.0) gs (coefficient g.1) i m.2 (λ j past. m.1.others j (omega (arith, m.0)) (λ (q : j ≡ g.0). absurd (omega arith))) in
    let one : coefficient g.1 g.0 *ℤ coefficient g.1 i ≡ coefficient g.1 i = ap (λ (t : ℤ). t *ℤ coefficient g.1 i) m.1.own ∙ (let q : pos 1 *ℤ coefficient g.1 i ≡ coefficient g.1 i = omega (arith, ints) in q) in
    omega (arith, ints, rest, one)
own_spanned n w s (g ∷ gs) (suc k) i least m below =
    let h = generator_at gs k in
    let far = mark_least n w (suc g.0) gs k m.2 (omega arith) in
    let gone : coefficient h.1 g.0 *ℤ coefficient g.1 i ≡ pos 0 = nothing_times (coefficient h.1 g.0) (coefficient g.1 i)
    ((own_at n w (suc g.0) gs k m.2 (omega arith)).others g.0 (omega (arith, m.0)) (λ (q : g.0 ≡ h.0). absurd (omega (arith, far)))) in
    omega (arith, ints, gone, own_spanned n w (suc g.0) gs k i (omega (arith, m.0)) m.2 (omega arith))

combination_same : (gs : List Generator) (f f' : ℕ → ℤ) (i : ℕ) → ((j : ℕ) → f j ≡ f' j)
    → combination gs f i ≡ combination gs f' i
combination_same [] f f' i same = refl
combination_same (g ∷ gs) f f' i same =
    let one : f g.0 *ℤ coefficient g.1 i ≡ f' g.0 *ℤ coefficient g.1 i = ap (λ (t : ℤ). t *ℤ coefficient g.1 i) (same g.0) in
    omega (arith, ints, one, combination_same gs f f' i same)

-- where each row is 0, so is each generator
zeros_of : (n w s : ℕ) (gs : List Generator) (x : ℕ → ℤ) → AreMarked n w s gs
    → ((k : ℕ) → k < length gs → along w (entry (held_at (held_of w gs) k).line) x ≡ pos 0) → AreZero gs x
zeros_of n w s [] x m rows = tt
zeros_of n w s (g ∷ gs) x m rows = (
  sym (total_terms w g.1 x m.1.within) ∙ total_same w (λ j. coefficient g.1 j *ℤ x j) (λ j. entry (spread w 0 g.1) j *ℤ x j) (λ j below. ap (λ (t : ℤ). t *ℤ x j) (sym (spread_is w g.1 j m.1.within))) ∙ rows 0 (omega arith),
  zeros_of n w (suc g.0) gs x m.2 (λ k below. rows (suc k) (omega arith)),
)

pub first_sound : (p : Program) → IsProgram p → IsSoundTableau (all_lines p) (width_of p) (first_tableau p)
first_sound p is =
    let n = slacks_from p in
    let w = width_of p in
    let gs = generators p.rows n in
    let m : AreMarked (slacks_from p) (width_of p) (slacks_from p) (generators p.rows (slacks_from p)) = marked p.rows (length p.costs) n w is (omega arith) (omega arith) in
    let wide : slacks_from p ≤ width_of p = width_above p.rows n in
    let o = (objective_line p.costs).1 in
    let o_costs : IsWithin (slacks_from p) (cost_terms p.costs 2) = (let q : 2 + length p.costs ≡ slacks_from p = omega arith in subst (λ (k : ℕ). IsWithin k (cost_terms p.costs 2)) q (within_costs p.costs 2)) in
    let o_first : IsWithin (slacks_from p) (objective_line p.costs).1 = (omega arith, o_costs) in
    let o_within : IsWithin (width_of p) (objective_line p.costs).1 = within_more n w o o_first wide in
    let o_one : coefficient (objective_line p.costs).1 1 ≡ pos 1 = omega (arith, ints, term_here 1 1 (pos 1) refl, cost_terms_low p.costs 2 1 (omega arith)) in
    let o_is : (j : ℕ) → entry (spread (width_of p) 0 (objective_line p.costs).1) j ≡ coefficient (objective_line p.costs).1 j = λ j. spread_is w o j o_within in
    let count : (k : ℕ) → k < length (first_tableau p).rows → k < length (generators p.rows (slacks_from p)) = λ k below. rw (← held_count w gs) below in
    let row : (k : ℕ) → k < length (generators p.rows (slacks_from p)) → (j : ℕ) → number_at (first_tableau p) k j ≡ coefficient (generator_at (generators p.rows (slacks_from p)) k).1 j =
    λ k below j. ap (λ (h : Held). entry h.line j) (held_is w gs k below) ∙ spread_is w (generator_at gs k).1 j (own_at n w n gs k m below).within in
    let basic : (k : ℕ) → k < length (generators p.rows (slacks_from p)) → basic_at (first_tableau p) k ≡ (generator_at (generators p.rows (slacks_from p)) k).0 =
    λ k below. ap (λ (h : Held). h.basic) (held_is w gs k below) in
    record {
      spans = λ k below'. let below = count k below' in record {
        is = λ j.
            let f = number_at (first_tableau p) k in
            let flat : number_at (first_tableau p) k 1 ≡ pos 0 = row k below 1 ∙ (own_at n w n gs k m below).flat in
            let sum : combination gs (number_at (first_tableau p) k) j ≡ coefficient (generator_at gs k).1 j =
            combination_same gs (number_at (first_tableau p) k) (coefficient (generator_at gs k).1) j (row k below) ∙ own_spanned n w n gs k j (omega arith) m below in
            omega (arith, ints, row k below j, sum, nothing_times (number_at (first_tableau p) k 1) (coefficient o j) flat);
      };
      spans_objective = record {
        is = λ j.
            let none : combination gs (entry (spread w 0 o)) j ≡ pos 0 = none_spanned n w n gs (entry (spread w 0 o)) j m (λ i past. o_is i ∙ beyond n o i o_first past) in
            let one : entry (spread w 0 o) 1 *ℤ coefficient o j ≡ coefficient o j = ap (λ (t : ℤ). t *ℤ coefficient o j) (o_is 1 ∙ o_one) ∙ (let q : pos 1 *ℤ coefficient o j ≡ coefficient o j = omega (arith, ints) in q) in
            omega (arith, ints, o_is j, none, one);
      };
      solves = λ x rows objective. (
        sym (total_terms w o x o_within) ∙ total_same w (λ j. coefficient o j *ℤ x j) (λ j. entry (spread w 0 o) j *ℤ x j) (λ j below. ap (λ (t : ℤ). t *ℤ x j) (sym (o_is j))) ∙ objective,
        zeros_of n w n gs x m (λ k below. rows k (rw (held_count w gs) below)),
      );
      flat = λ k below'. let below = count k below' in row k below 1 ∙ (own_at n w n gs k m below).flat;
      scale = rw (o_is 1, o_one) (omega (arith, ints));
      least = λ k below'. let below = count k below' in rw (basic k below) (omega (arith, mark_least n w n gs k m below));
      most = λ k below'. let below = count k below' in rw (basic k below) (own_at n w n gs k m below).most;
      own = λ k below'. let below = count k below' in
          rw (basic k below, row k below (generator_at gs k).0, (own_at n w n gs k m below).own) (omega (arith, ints));
      apart = λ k i below' more' d. let below = count k below' in let more = count i more' in
          rw (basic i more, row k below (generator_at gs i).0) ((own_at n w n gs k m below).others (generator_at gs i).0 (mark_least n w n gs i m more) (marks_apart n w n gs k i m below more d));
      clear = λ k below'. let below = count k below' in
          rw (basic k below, o_is (generator_at gs k).0) (beyond n o (generator_at gs k).0 o_first (mark_least n w n gs k m below));
    }
