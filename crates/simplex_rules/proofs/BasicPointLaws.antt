-- The point read off a tableau without negative right sides: feasible, and worth the dual value.
use Rattle.std.proofs.Common.{◌≡◌, ℕ, ℤ, pos, negsuc, zero, suc, ◌+◌, ◌<◌, ◌≤◌, arith, refl, sym, ap, ◌∙◌, List, [], ◌∷◌, length, ⊎_elim, Bool, true, false}
use Rattle.std.specs.Prelude.{◌+ℤ◌, ◌-ℤ◌, ◌*ℤ◌, ◌≤ℤ◌, neg_ℤ}
use Rattle.std.proofs.lemmas.Int.{ints}
use Rattle.std.proofs.lemmas.Bool.{cases_eq, eq-eqb, ne_eqb}
use Rattle.whole_numbers.specs.MultipleLaws.{times_times}
use Rattle.ipet_rows.specs.Sums.{total, value_at}
use Rattle.ipet_rows.specs.Programs.{Row, Program, row_at, cost_at}
use Rattle.ipet_rows.specs.Points.{Meets, MeetsAs, MeetsAll, worth}
use Rattle.ipet_rows.specs.Firsts.{entry}
use Rattle.ipet_rows.specs.SumLaws.{total_changed, total_same, total_nothing, total_first, times_difference, neg_times, times_neg, swap_first}
use Rattle.simplex_rules.specs.Tableaus.{Generator, Held, Tableau, held_at, number_at, turned, row_lines, next_slack, generators, slacks_from, all_lines, width_of}
use Rattle.simplex_rules.specs.Promise.{own_of, basic_whole, bare_number, basic_number, basic_point, point_whole}
use Rattle.simplex_rules.specs.Mixing.{along}
use Rattle.simplex_rules.specs.MixingLaws.{product_above}
use Rattle.simplex_rules.specs.Pivoting.{IsSoundTableau, AreZero}
use Rattle.simplex_rules.proofs.FirstLineLemmas.{value_placed, value_turned, value_costs}

-- a line's value at these numbers, row by row
abbrev basic_sum : List Held → ℤ → ℤ → (ℕ → ℤ) → ℤ
basic_sum [] scale value f = (f 1 *ℤ value) -ℤ (f 0 *ℤ scale)
basic_sum (h ∷ hs) scale value f = (f h.basic *ℤ (entry h.line 0 *ℤ basic_whole hs scale)) +ℤ (own_of h *ℤ basic_sum hs scale value f)

-- rows with basic places of their own
record IsBasis (w : ℕ) (hs : List Held) : Type 0 where
  least : (k : ℕ) → k < length hs → 2 ≤ (held_at hs k).basic
  most : (k : ℕ) → k < length hs → (held_at hs k).basic < w
  flat : (k : ℕ) → k < length hs → entry (held_at hs k).line 1 ≡ pos 0
  own : (k : ℕ) → k < length hs → pos 1 ≤ℤ own_of (held_at hs k)
  apart : (k i : ℕ) → k < length hs → i < length hs → (k ≡ i → ⊥)
      → entry (held_at hs k).line (held_at hs i).basic ≡ pos 0

basis_tail : (w : ℕ) (h : Held) (hs : List Held) → IsBasis w (h ∷ hs) → IsBasis w hs
basis_tail w h hs b = record {
  least = λ k below. b.least (suc k) (omega arith);
  most = λ k below. b.most (suc k) (omega arith);
  flat = λ k below. b.flat (suc k) (omega arith);
  own = λ k below. b.own (suc k) (omega arith);
  apart = λ k i below below' d. b.apart (suc k) (suc i) (omega arith) (omega arith) (λ (q : suc k ≡ suc i). d (omega arith));
}

times_nothing : (u z : ℤ) → z ≡ pos 0 → u *ℤ z ≡ pos 0
times_nothing u z e = rw e (omega (arith, ints))

nothing_times : (u z : ℤ) → u ≡ pos 0 → u *ℤ z ≡ pos 0
nothing_times u z e = rw e (omega (arith, ints))

-- a place that is no row's is 0
number_elsewhere : (hs : List Held) (scale value : ℤ) (j : ℕ) → 2 ≤ j
    → ((k : ℕ) → k < length hs → (held_at hs k).basic ≡ j → ⊥) → basic_number hs scale value j ≡ pos 0
number_elsewhere [] scale value zero least other = absurd (omega arith)
number_elsewhere [] scale value (suc zero) least other = absurd (omega arith)
number_elsewhere [] scale value (suc (suc j)) least other = refl
number_elsewhere (h ∷ hs) scale value j least other =
    rw (ne_eqb j h.basic (λ (q : j ≡ h.basic). other 0 (omega arith) (sym q)))
    (times_nothing (own_of h) (basic_number hs scale value j) (number_elsewhere hs scale value j least (λ k below. other (suc k) (omega arith))))

-- two rows have two places
basics_apart : (w : ℕ) (hs : List Held) (k i : ℕ) → IsBasis w hs → k < length hs → i < length hs → (k ≡ i → ⊥)
    → (held_at hs k).basic ≡ (held_at hs i).basic → ⊥
basics_apart w hs k i b below below' d same =
    let one : pos 1 ≤ℤ entry (held_at hs k).line (held_at hs k).basic = b.own k below in
    let none : entry (held_at hs k).line (held_at hs i).basic ≡ pos 0 = b.apart k i below below' d in
    let both : entry (held_at hs k).line (held_at hs k).basic ≡ entry (held_at hs k).line (held_at hs i).basic = ap (λ (n : ℕ). entry (held_at hs k).line n) same in
    absurd (omega (arith, ints, one, none, both))

-- the first two places alone
along_bare : (w : ℕ) (scale value : ℤ) (f : ℕ → ℤ) → 2 ≤ w
    → along w f (bare_number scale value) ≡ (f 1 *ℤ value) -ℤ (f 0 *ℤ scale)
along_bare zero scale value f least = absurd (omega arith)
along_bare (suc zero) scale value f least = absurd (omega arith)
along_bare (suc (suc w)) scale value f least =
    let one = total_first (suc w) (λ j. f j *ℤ bare_number scale value j) in
    let two = total_first w (λ j. f (suc j) *ℤ bare_number scale value (suc j)) in
    let rest : total w (λ j. f (suc (suc j)) *ℤ bare_number scale value (suc (suc j))) ≡ pos 0 =
    total_nothing w (λ j. f (suc (suc j)) *ℤ bare_number scale value (suc (suc j))) (λ j below. times_nothing (f (suc (suc j))) (pos 0) refl) in
    let turn : f 0 *ℤ neg_ℤ scale ≡ pos 0 -ℤ (f 0 *ℤ scale) = times_neg (f 0) scale in
    omega (arith, ints, one, two, rest, turn)

along_basic : (w : ℕ) (hs : List Held) (scale value : ℤ) (f : ℕ → ℤ) → 2 ≤ w → IsBasis w hs
    → along w f (basic_number hs scale value) ≡ basic_sum hs scale value f
along_basic w [] scale value f least b = along_bare w scale value f least
along_basic w (h ∷ hs) scale value f least b =
    let changed = total_changed w h.basic (own_of h) (entry h.line 0 *ℤ basic_whole hs scale) f (basic_number hs scale value) (b.most 0 (omega arith)) in
    let rest : along w f (basic_number hs scale value) ≡ basic_sum hs scale value f = along_basic w hs scale value f least (basis_tail w h hs b) in
    let none : basic_number hs scale value h.basic ≡ pos 0 =
    number_elsewhere hs scale value h.basic (b.least 0 (omega arith)) (λ k below same. basics_apart w (h ∷ hs) (suc k) 0 b (omega arith) (omega arith) (λ (q : suc k ≡ 0). absurd (omega arith)) same) in
    let gone : f h.basic *ℤ (own_of h *ℤ basic_number hs scale value h.basic) ≡ pos 0 =
    times_nothing (f h.basic) (own_of h *ℤ basic_number hs scale value h.basic) (times_nothing (own_of h) (basic_number hs scale value h.basic) none) in
    let moved : own_of h *ℤ along w f (basic_number hs scale value) ≡ own_of h *ℤ basic_sum hs scale value f = ap (λ (t : ℤ). own_of h *ℤ t) rest in
    omega (arith, ints, changed, gone, moved)

-- a line that is 0 at the basic places and has scale s
free_sum : (hs : List Held) (scale value : ℤ) (f : ℕ → ℤ) → f 1 ≡ pos 0
    → ((k : ℕ) → k < length hs → f (held_at hs k).basic ≡ pos 0)
    → basic_sum hs scale value f ≡ pos 0 -ℤ (f 0 *ℤ basic_whole hs scale)
free_sum [] scale value f flat clear = omega (arith, ints, nothing_times (f 1) value flat)
free_sum (h ∷ hs) scale value f flat clear =
    let gone : f h.basic *ℤ (entry h.line 0 *ℤ basic_whole hs scale) ≡ pos 0 = nothing_times (f h.basic) (entry h.line 0 *ℤ basic_whole hs scale) (clear 0 (omega arith)) in
    let rest : basic_sum hs scale value f ≡ pos 0 -ℤ (f 0 *ℤ basic_whole hs scale) = free_sum hs scale value f flat (λ k below. clear (suc k) (omega arith)) in
    let moved : own_of h *ℤ basic_sum hs scale value f ≡ own_of h *ℤ (pos 0 -ℤ (f 0 *ℤ basic_whole hs scale)) = ap (λ (t : ℤ). own_of h *ℤ t) rest in
    let apart_ = times_difference (own_of h) (pos 0) (f 0 *ℤ basic_whole hs scale) in
    let order = swap_first (own_of h) (f 0) (basic_whole hs scale) in
    omega (arith, ints, gone, moved, apart_, order)

-- a row is 0
row_sum_zero : (w : ℕ) (hs : List Held) (scale value : ℤ) (k : ℕ) → IsBasis w hs → k < length hs
    → basic_sum hs scale value (entry (held_at hs k).line) ≡ pos 0
row_sum_zero w [] scale value k b below = absurd (omega arith)
row_sum_zero w (h ∷ hs) scale value zero b below =
    let rest : basic_sum hs scale value (entry h.line) ≡ pos 0 -ℤ (entry h.line 0 *ℤ basic_whole hs scale) =
    free_sum hs scale value (entry h.line) (b.flat 0 below) (λ k less. b.apart 0 (suc k) below (omega arith) (λ (q : 0 ≡ suc k). absurd (omega arith))) in
    let moved : own_of h *ℤ basic_sum hs scale value (entry h.line) ≡ own_of h *ℤ (pos 0 -ℤ (entry h.line 0 *ℤ basic_whole hs scale)) = ap (λ (t : ℤ). own_of h *ℤ t) rest in
    omega (arith, ints, moved, times_difference (own_of h) (pos 0) (entry h.line 0 *ℤ basic_whole hs scale))
row_sum_zero w (h ∷ hs) scale value (suc k) b below =
    let f = entry (held_at hs k).line in
    let gone : f h.basic *ℤ (entry h.line 0 *ℤ basic_whole hs scale) ≡ pos 0 =
    nothing_times (f h.basic) (entry h.line 0 *ℤ basic_whole hs scale) (b.apart (suc k) 0 below (omega arith) (λ (q : suc k ≡ 0). absurd (omega arith))) in
    let rest : own_of h *ℤ basic_sum hs scale value f ≡ pos 0 = times_nothing (own_of h) (basic_sum hs scale value f) (row_sum_zero w hs scale value k (basis_tail w h hs b) (omega arith)) in
    omega (arith, ints, gone, rest)

-- the objective is 0
objective_sum_zero : (hs : List Held) (scale value : ℤ) (f : ℕ → ℤ) → f 1 ≡ scale → f 0 ≡ value
    → ((k : ℕ) → k < length hs → f (held_at hs k).basic ≡ pos 0) → basic_sum hs scale value f ≡ pos 0
objective_sum_zero [] scale value f one two clear = rw (one, two) (omega (arith, ints))
objective_sum_zero (h ∷ hs) scale value f one two clear =
    let gone : f h.basic *ℤ (entry h.line 0 *ℤ basic_whole hs scale) ≡ pos 0 = nothing_times (f h.basic) (entry h.line 0 *ℤ basic_whole hs scale) (clear 0 (omega arith)) in
    let rest : own_of h *ℤ basic_sum hs scale value f ≡ pos 0 = times_nothing (own_of h) (basic_sum hs scale value f) (objective_sum_zero hs scale value f one two (λ k below. clear (suc k) (omega arith))) in
    omega (arith, ints, gone, rest)

-- The numbers themselves.

whole_above : (w : ℕ) (hs : List Held) (scale : ℤ) → IsBasis w hs → pos 1 ≤ℤ scale → pos 1 ≤ℤ basic_whole hs scale
whole_above w [] scale b above = above
whole_above w (h ∷ hs) scale b above = product_above (own_of h) (basic_whole hs scale) (b.own 0 (omega arith)) (whole_above w hs scale (basis_tail w h hs b) above)

number_right : (w : ℕ) (hs : List Held) (scale value : ℤ) → IsBasis w hs
    → basic_number hs scale value 0 ≡ neg_ℤ (basic_whole hs scale)
number_right w [] scale value b = refl
number_right w (h ∷ hs) scale value b =
    rw (ne_eqb 0 h.basic (λ (q : 0 ≡ h.basic). absurd (omega (arith, b.least 0 (omega arith)))), number_right w hs scale value (basis_tail w h hs b))
    (omega (arith, ints, times_neg (own_of h) (basic_whole hs scale)))

-- the objective's number, times its scale, is the value times the whole
number_value : (w : ℕ) (hs : List Held) (scale value : ℤ) → IsBasis w hs
    → basic_number hs scale value 1 *ℤ scale ≡ value *ℤ basic_whole hs scale
number_value w [] scale value b = refl
number_value w (h ∷ hs) scale value b =
    rw (ne_eqb 1 h.basic (λ (q : 1 ≡ h.basic). absurd (omega (arith, b.least 0 (omega arith)))))
    (times_times (own_of h) (basic_number hs scale value 1) scale
    ∙ ap (λ (t : ℤ). own_of h *ℤ t) (number_value w hs scale value (basis_tail w h hs b))
    ∙ swap_first (own_of h) value (basic_whole hs scale))

not_below : (a b : ℤ) → pos 0 ≤ℤ a → pos 0 ≤ℤ b → pos 0 ≤ℤ (a *ℤ b)
not_below (pos d) (pos m) p q = omega (arith, ints)
not_below (negsuc d) m p q = absurd (omega (arith, ints))
not_below (pos d) (negsuc m) p q = absurd (omega (arith, ints))

number_not_below : (w : ℕ) (hs : List Held) (scale value : ℤ) (j : ℕ) → IsBasis w hs → pos 1 ≤ℤ scale → 2 ≤ j
    → ((k : ℕ) → k < length hs → pos 0 ≤ℤ entry (held_at hs k).line 0) → pos 0 ≤ℤ basic_number hs scale value j
number_not_below w [] scale value zero b above least rights = absurd (omega arith)
number_not_below w [] scale value (suc zero) b above least rights = absurd (omega arith)
number_not_below w [] scale value (suc (suc j)) b above least rights = omega (arith, ints)
number_not_below w (h ∷ hs) scale value j b above least rights =
    let whole = whole_above w hs scale (basis_tail w h hs b) above in
    let one = b.own 0 (omega arith) in
    ⊎_elim
    (λ (q : j ≡ h.basic). rw (eq-eqb j h.basic q) (not_below (entry h.line 0) (basic_whole hs scale) (rights 0 (omega arith)) (omega (arith, ints, whole))))
    (λ (d : j ≡ h.basic → ⊥). rw (ne_eqb j h.basic d)
    (not_below (own_of h) (basic_number hs scale value j) (omega (arith, ints, one)) (number_not_below w hs scale value j (basis_tail w h hs b) above least (λ k below. rights (suc k) (omega arith)))))
    (cases_eq j h.basic)

-- The rows are met.

meets_step : (b : Bool) (r : Row) (s : ℕ) (more : List Generator) (x : ℕ → ℤ) (w : ℤ) → x 0 ≡ neg_ℤ w → 2 ≤ s
    → ((j : ℕ) → 2 ≤ j → pos 0 ≤ℤ x j)
    → AreZero (row_lines b r s more) x → MeetsAs b (value_at r.terms (λ e. x (suc (suc e)))) (r.right *ℤ w) × AreZero more x
meets_step false r s more x w right least positive zeros =
    let one : r.right *ℤ x 0 ≡ pos 0 -ℤ (r.right *ℤ w) = ap (λ (t : ℤ). r.right *ℤ t) right ∙ times_neg r.right w in
    (omega (arith, ints, zeros.0, one, value_placed r.terms x, positive s least), zeros.1)
meets_step true r s more x w right least positive zeros =
    let one : r.right *ℤ x 0 ≡ pos 0 -ℤ (r.right *ℤ w) = ap (λ (t : ℤ). r.right *ℤ t) right ∙ times_neg r.right w in
    let two : neg_ℤ r.right *ℤ x 0 ≡ pos 0 -ℤ (r.right *ℤ x 0) = neg_times r.right (x 0) in
    (omega (arith, ints, zeros.0, zeros.1.0, one, two, value_placed r.terms x, value_placed (turned r.terms) x, value_turned r.terms (λ e. x (suc (suc e))), positive s least, positive (suc s) (omega arith)), zeros.1.1)

next_least : (b : Bool) (s : ℕ) → 2 ≤ s → 2 ≤ next_slack b s
next_least true s least = omega arith
next_least false s least = omega arith

rows_met : (rs : List Row) (s : ℕ) (x : ℕ → ℤ) (w : ℤ) (k : ℕ) → x 0 ≡ neg_ℤ w → 2 ≤ s
    → ((j : ℕ) → 2 ≤ j → pos 0 ≤ℤ x j)
    → AreZero (generators rs s) x → k < length rs → Meets (row_at rs k) (λ e. x (suc (suc e))) w
rows_met [] s x w k right least positive zeros below = absurd (omega arith)
rows_met (r ∷ rs) s x w zero right least positive zeros below = (meets_step r.equation r s (generators rs (next_slack r.equation s)) x w right least positive zeros).0
rows_met (r ∷ rs) s x w (suc k) right least positive zeros below =
    rows_met rs (next_slack r.equation s) x w k right (next_least r.equation s least) positive
    (meets_step r.equation r s (generators rs (next_slack r.equation s)) x w right least positive zeros).1 (omega arith)

-- The theorem.

sound_basis : (gs : List Generator) (w : ℕ) (t : Tableau) → IsSoundTableau gs w t → IsBasis w t.rows
sound_basis gs w t s = record { least = s.least; most = s.most; flat = s.flat; own = s.own; apart = s.apart }

pub point_above : (gs : List Generator) (w : ℕ) (t : Tableau) → IsSoundTableau gs w t → pos 1 ≤ℤ point_whole t
point_above gs w t s = whole_above w t.rows (entry t.objective 1) (sound_basis gs w t s) s.scale

-- all first lines are 0 at the numbers read off
all_zero : (gs : List Generator) (w : ℕ) (t : Tableau) → 2 ≤ w → IsSoundTableau gs w t
    → AreZero gs (basic_number t.rows (entry t.objective 1) (entry t.objective 0))
all_zero gs w t least s =
    let b = sound_basis gs w t s in
    let d = entry t.objective 1 in
    let v = entry t.objective 0 in
    s.solves (basic_number t.rows d v)
    (λ k below. along_basic w t.rows d v (number_at t k) least b ∙ row_sum_zero w t.rows d v k b below)
    (along_basic w t.rows d v (entry t.objective) least b ∙ objective_sum_zero t.rows d v (entry t.objective) refl refl s.clear)

-- the point is feasible
pub point_meets : (p : Program) (t : Tableau) → 2 ≤ width_of p → IsSoundTableau (all_lines p) (width_of p) t
    → ((k : ℕ) → k < length t.rows → pos 0 ≤ℤ number_at t k 0) → MeetsAll p (basic_point t) (point_whole t)
point_meets p t least s rights =
    let b = sound_basis (all_lines p) (width_of p) t s in
    let d = entry t.objective 1 in
    let v = entry t.objective 0 in
    let x = basic_number t.rows d v in
    let zeros = all_zero (all_lines p) (width_of p) t least s in
    let positive : (j : ℕ) → 2 ≤ j → pos 0 ≤ℤ basic_number t.rows d v j = λ j two. number_not_below (width_of p) t.rows d v j b s.scale two rights in
    record {
      columns = λ e. positive (suc (suc e)) (omega arith);
      meets = λ k below. rows_met p.rows (slacks_from p) x (point_whole t) k (number_right (width_of p) t.rows d v b) (omega arith) positive zeros.1 below;
    }

-- its worth is the dual value
pub point_worth : (p : Program) (t : Tableau) → 2 ≤ width_of p → IsSoundTableau (all_lines p) (width_of p) t
    → entry t.objective 1 *ℤ worth p (basic_point t) ≡ entry t.objective 0 *ℤ point_whole t
point_worth p t least s =
    let b = sound_basis (all_lines p) (width_of p) t s in
    let d = entry t.objective 1 in
    let v = entry t.objective 0 in
    let x = basic_number t.rows d v in
    let zeros = all_zero (all_lines p) (width_of p) t least s in
    let costs = value_costs p.costs 2 x in
    let moved : total (length p.costs) (λ e. pos (cost_at p.costs e) *ℤ x (2 + e)) ≡ worth p (basic_point t) =
    total_same (length p.costs) (λ e. pos (cost_at p.costs e) *ℤ x (2 + e)) (λ e. pos (cost_at p.costs e) *ℤ x (suc (suc e))) (λ e below. ap (λ (n : ℕ). pos (cost_at p.costs e) *ℤ x n) (omega arith)) in
    let same : worth p (basic_point t) ≡ x 1 = omega (arith, ints, costs, moved, zeros.0) in
    ap (λ (t : ℤ). d *ℤ t) same ∙ (let q : d *ℤ x 1 ≡ x 1 *ℤ d = omega (arith, ints) in q) ∙ number_value (width_of p) t.rows d v b
