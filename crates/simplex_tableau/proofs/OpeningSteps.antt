-- The opening, pivot by pivot.
use Rattle.std.proofs.Common.{◌≡◌, ℕ, ℤ, pos, zero, suc, ◌+◌, ◌*◌, ◌<◌, ◌≤◌, arith, refl, sym, ap, ◌∙◌, subst, List, [], ◌∷◌, length, Bool, true, false, slice_get, Some}
use Rattle.std.specs.Prelude.{◌<ℤ◌}
use Rattle.std.proofs.lemmas.Int.{ints}
use Rattle.std.proofs.lemmas.Option.{same_Some, none-some}
use Rattle.ipet_rows.specs.Programs.{Row, Program, IsProgram, row_at}
use Rattle.simplex_rules.specs.Tableaus.{Tableau, held_at, number_at, all_lines, width_of, first_tableau}
use Rattle.simplex_rules.specs.PivotRule.{opening_at, opened, pivoted}
use Rattle.simplex_rules.specs.Pivoting.{IsSoundTableau}
use Rattle.simplex_rules.specs.OpeningLaws.{opened_is}
use Rattle.simplex_rules.specs.OpeningPlaces.{next_line, line_place, opening_places, OpensRows}
use Rattle.simplex_rules.specs.OpeningPlaceLaws.{opens_lines}
use Rattle.simplex_rules.specs.PlainOpeningLaws.{plain_opening}
use Rattle.simplex_tableau.specs.Sparse.{Seen}
use Rattle.simplex_tableau.specs.Stepped.{CanPivot, exchange_wide, IsOpened as IsPivotOpened}
use Rattle.dual_check.specs.Small.{IsSmall}
use Rattle.simplex_tableau.proofs.NarrowSteps.{pivot_narrow}
use Rattle.simplex_tableau.specs.Started.{IsFirst, IsOpenedSo, IsStarted}

-- ---- lines of rows

lines_swap : (a b : Bool) (n : ℕ) → next_line a (next_line b n) ≡ next_line b (next_line a n)
lines_swap true true n = refl
lines_swap true false n = refl
lines_swap false true n = refl
lines_swap false false n = refl

pub line_first : (rs : List Row) → line_place rs 0 ≡ 0
line_first [] = refl
line_first (r ∷ rs) = refl

pub line_next : (rs : List Row) (k : ℕ) → k < length rs
    → line_place rs (suc k) ≡ next_line (row_at rs k).equation (line_place rs k)
line_next [] k below = absurd (omega arith)
line_next (r ∷ rs) zero below = ap (λ (n : ℕ). next_line r.equation n) (line_first rs)
line_next (r ∷ rs) (suc k) below = ap (λ (n : ℕ). next_line r.equation n) (line_next rs k (omega arith)) ∙ lines_swap r.equation (row_at rs k).equation (line_place rs k)

next_most : (b : Bool) (n m : ℕ) → n ≤ m → next_line b n ≤ m + 2
next_most true n m less = omega arith
next_most false n m less = omega arith

-- no row has more than two lines
pub line_most : (rs : List Row) (k : ℕ) → line_place rs k ≤ 2 * k
line_most [] zero = omega arith
line_most [] (suc k) = omega arith
line_most (r ∷ rs) zero = omega arith
line_most (r ∷ rs) (suc k) = omega (arith, next_most r.equation (line_place rs k) (2 * k) (line_most rs k))

pub line_more : (rs : List Row) (k n : ℕ) → k < length rs → n ≡ next_line (row_at rs k).equation (line_place rs k)
    → n ≡ line_place rs (k + 1)
line_more rs k n below is = is ∙ sym (line_next rs k below) ∙ ap (λ (i : ℕ). line_place rs i) (let e : suc k ≡ k + 1 = omega arith in e)

-- ---- openings

pub places_count : (rows : List Row) (os : List (ℕ × ℕ)) → length (opening_places rows os) ≡ length os
places_count rows [] = refl
places_count rows (o ∷ os) = ap suc (places_count rows os)

place_row : (rows : List Row) (os : List (ℕ × ℕ)) (i : ℕ) (o : ℕ × ℕ) → slice_get os i ≡ Some o
    → (opening_at (opening_places rows os) i).0 ≡ line_place rows o.0
place_row rows [] i o there = absurd (none-some o there)
place_row rows (x ∷ os) zero o there = ap (λ (z : ℕ × ℕ). line_place rows z.0) (same_Some x o there)
place_row rows (x ∷ os) (suc i) o there = place_row rows os i o there

place_column : (rows : List Row) (os : List (ℕ × ℕ)) (i : ℕ) (o : ℕ × ℕ) → slice_get os i ≡ Some o
    → (opening_at (opening_places rows os) i).1 ≡ suc (suc o.1)
place_column rows [] i o there = absurd (none-some o there)
place_column rows (x ∷ os) zero o there = ap (λ (z : ℕ × ℕ). suc (suc z.1)) (same_Some x o there)
place_column rows (x ∷ os) (suc i) o there = place_column rows os i o there

opening_there : (os : List (ℕ × ℕ)) (i : ℕ) (o : ℕ × ℕ) → slice_get os i ≡ Some o → opening_at os i ≡ o
opening_there [] i o there = absurd (none-some o there)
opening_there (x ∷ os) zero o there = same_Some x o there
opening_there (x ∷ os) (suc i) o there = opening_there os i o there

-- what a pivot asks holds of every sound tableau
pub sound_can : (p : Program) (t : Tableau) (r : ℕ) → IsSoundTableau (all_lines p) (width_of p) t → r < length t.rows
    → CanPivot t r
sound_can p t r sound below = record {
  own = λ k less other. sound.own k less;
  apart = λ k less other. sound.apart r k below less (λ (q : r ≡ k). other (sym q));
  flat = sound.flat r below;
  scale = sound.scale;
}

-- what is known before the opening's pivot i
pub record IsReady (t : Tableau) (r e : ℕ) : Type 0 where
  pub below : r < length t.rows
  pub above : pos 0 <ℤ number_at t r e
  pub can : CanPivot t r

ready : (p : Program) (os : List (ℕ × ℕ)) (i : ℕ) → IsProgram p → OpensRows p os → i < length os
    → IsReady (opened (opening_places p.rows os) i (first_tableau p)) (opening_at (opening_places p.rows os) i).0 (opening_at (opening_places p.rows os) i).1
ready p os i is opens below =
    let places = opening_places p.rows os in
    let o = opens_lines p os opens in
    let low : i < length (opening_places p.rows os) = omega (arith, below, places_count p.rows os) in
    let x = opened_is p places i is o (omega (arith, low)) in
    let plain = plain_opening p places is o i (omega (arith, low)) in
    let row = o.rows i low in
    let r_below : (opening_at (opening_places p.rows os) i).0 < length (opened (opening_places p.rows os) i (first_tableau p)).rows = omega (arith, x.count, row) in
    let number = plain.rows i low (opening_at (opening_places p.rows os) i).1 in
    record {
      below = r_below;
      above = omega (arith, ints, number, o.own i low);
      can = sound_can p (opened (opening_places p.rows os) i (first_tableau p)) (opening_at (opening_places p.rows os) i).0 x.sound r_below;
    }

pub ready_at : (p : Program) (os : List (ℕ × ℕ)) (i r e : ℕ) (o : ℕ × ℕ) (s : Seen) → IsProgram p → OpensRows p os
    → i < length os → slice_get os i ≡ Some o
    → r ≡ line_place p.rows o.0 → e ≡ suc (suc o.1) → IsOpenedSo p os i s → IsReady s.tableau r e
ready_at p os i r e o s is opens below there row column so =
    let q : (opening_at (opening_places p.rows os) i).0 ≡ r = place_row p.rows os i o there ∙ sym row in
    let c : (opening_at (opening_places p.rows os) i).1 ≡ e = place_column p.rows os i o there ∙ sym column in
    subst (λ (t : Tableau). IsReady t r e) (sym so.tableau)
    (subst (λ (n : ℕ). IsReady (opened (opening_places p.rows os) i (first_tableau p)) n e) q
    (subst (λ (n : ℕ). IsReady (opened (opening_places p.rows os) i (first_tableau p)) (opening_at (opening_places p.rows os) i).0 n) c (ready p os i is opens below)))

-- no pivot of the opening is wide
pub never_wide : (p : Program) (os : List (ℕ × ℕ)) (i r e : ℕ) (o : ℕ × ℕ) (s : Seen) → IsProgram p → OpensRows p os
    → IsSmall p → length os < 4294967296
    → i < length os → slice_get os i ≡ Some o
    → r ≡ line_place p.rows o.0 → e ≡ suc (suc o.1) → IsOpenedSo p os i s → exchange_wide r e (held_at s.tableau.rows r).line s.tableau ≡ false
never_wide p os i r e o s is opens small few below there row column so =
    let places = opening_places p.rows os in
    let lines = opens_lines p os opens in
    let count = places_count p.rows os in
    let low : i < length (opening_places p.rows os) = omega (arith, below, count) in
    let plain = plain_opening p places is lines i (omega (arith, low)) in
    let q : (opening_at (opening_places p.rows os) i).0 ≡ r = place_row p.rows os i o there ∙ sym row in
    let c : (opening_at (opening_places p.rows os) i).1 ≡ e = place_column p.rows os i o there ∙ sym column in
    let t = opened (opening_places p.rows os) i (first_tableau p) in
    let narrow = pivot_narrow p places i t small lines (omega (arith, few, count)) low plain in
    subst (λ (t : Tableau). exchange_wide r e (held_at t.rows r).line t ≡ false) (sym so.tableau)
    (subst (λ (n : ℕ). exchange_wide r n (held_at t.rows r).line t ≡ false) c
    (subst (λ (n : ℕ). exchange_wide n (opening_at (opening_places p.rows os) i).1 (held_at t.rows n).line t ≡ false) q narrow))

pub opened_more : (p : Program) (os : List (ℕ × ℕ)) (i r e : ℕ) (o : ℕ × ℕ) (old new : Seen) → slice_get os i ≡ Some o
    → r ≡ line_place p.rows o.0 → e ≡ suc (suc o.1) → IsOpenedSo p os i old → IsPivotOpened r e old new → IsOpenedSo p os (i + 1) new
opened_more p os i r e o old new there row column so made =
    let q : r ≡ (opening_at (opening_places p.rows os) i).0 = row ∙ sym (place_row p.rows os i o there) in
    let c : e ≡ (opening_at (opening_places p.rows os) i).1 = column ∙ sym (place_column p.rows os i o there) in
    record {
      width = made.width ∙ so.width;
      tableau = subst (λ (n : ℕ). new.tableau ≡ opened (opening_places p.rows os) n (first_tableau p)) (let e : suc i ≡ i + 1 = omega arith in e)
          (made.tableau ∙ ap (λ (n : ℕ). pivoted (pos 1) n e old.tableau) q ∙ ap (λ (n : ℕ). pivoted (pos 1) (opening_at (opening_places p.rows os) i).0 n old.tableau) c
          ∙ ap (λ (t : Tableau). pivoted (pos 1) (opening_at (opening_places p.rows os) i).0 (opening_at (opening_places p.rows os) i).1 t) so.tableau);
    }

pub first_opened : (p : Program) (os : List (ℕ × ℕ)) (s : Seen) → IsFirst p s → IsOpenedSo p os 0 s
first_opened p os s first = record { width = first.width; tableau = first.tableau }

pub all_opened : (p : Program) (os : List (ℕ × ℕ)) (n : ℕ) (s : Seen) → n ≡ length os → IsOpenedSo p os n s
    → IsStarted p os s
all_opened p os n s all so = record {
  width = so.width;
  tableau = so.tableau ∙ ap (λ (n : ℕ). opened (opening_places p.rows os) n (first_tableau p)) (all ∙ sym (places_count p.rows os));
}

pub row_there : (p : Program) (os : List (ℕ × ℕ)) (i : ℕ) (o : ℕ × ℕ) → OpensRows p os → i < length os
    → slice_get os i ≡ Some o → o.0 < length p.rows
row_there p os i o opens below there = let low = opens.rows i below in subst (λ (z : ℕ × ℕ). z.0 < length p.rows) (opening_there os i o there) low

pub column_there : (p : Program) (os : List (ℕ × ℕ)) (i : ℕ) (o : ℕ × ℕ) → OpensRows p os → i < length os
    → slice_get os i ≡ Some o → o.1 < length p.costs
column_there p os i o opens below there = let low = opens.columns i below in subst (λ (z : ℕ × ℕ). z.1 < length p.costs) (opening_there os i o there) low
