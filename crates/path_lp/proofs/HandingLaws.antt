-- What a tableau hands out, by terms.
use Rattle.std.proofs.Common.{◌≡◌, ℕ, ℤ, pos, zero, suc, ◌+◌, ◌<◌, ◌≤◌, arith, refl, sym, ap, ◌∙◌, subst, List, [], ◌∷◌, ◌++◌, length, drop, Bool, true, false, ⊎_elim}
use Rattle.std.specs.Prelude.{◌-ℤ◌, ◌≤ℤ◌}
use Rattle.std.proofs.lemmas.Int.{ints}
use Rattle.std.proofs.lemmas.Bool.{cases_lt}
use Rattle.ipet_rows.specs.Sums.{coefficient, IsAscending}
use Rattle.ipet_rows.specs.Programs.{Row, Program, IsWithin, row_at}
use Rattle.ipet_rows.specs.Firsts.{entry}
use Rattle.simplex_rules.specs.Lines.{spread}
use Rattle.simplex_rules.specs.Tableaus.{next_slack, multiplier, multipliers, slacks_from, width_of, width_from}
use Rattle.simplex_rules.specs.FirstTableauLaws.{beyond, spread_is}
use Rattle.simplex_rules.specs.HandedOutLaws.{width_above}
use Rattle.simplex_tableau.specs.Sparse.{Seen, IsKept}
use Rattle.simplex_tableau.specs.Choosing.{dropped}
use Rattle.simplex_tableau.specs.TermsFromLaws.{dropped_rises, dropped_same}
use Rattle.simplex_tableau.specs.RowStepLaws.{row_next, drop_more, slack_below, next_past}
use Rattle.path_lp.specs.Handing.{multiplier_by, multipliers_by, IsHanded}
use Rattle.path_lp.specs.Stepping.{Stands}

pub columns_room : (p : Program) (s : Seen) → Stands p s → length p.costs + 2 ≤ s.width
columns_room p s stands = omega (arith, stands.width, width_above p.rows (slacks_from p))

pub objective_rising : (p : Program) (s : Seen) (ts : List (ℕ × ℤ)) → Stands p s
    → spread s.width 0 ts ≡ s.tableau.objective → IsKept s.width ts
    → (j : ℕ) → 2 ≤ j → pos 0 ≤ℤ coefficient ts j
objective_rising p s ts stands shown kept j least = ⊎_elim
    (λ (below : j < s.width).
    let rising = stands.right.rising.is j least (omega (arith, below, stands.width)) in
    let same : entry s.tableau.objective j ≡ coefficient ts j = ap (λ (l : List ℤ). entry l j) (sym shown) ∙ spread_is s.width ts j kept.within in
    omega (arith, ints, rising, same))
    (λ (past : s.width ≤ j). omega (arith, ints, beyond s.width ts j kept.within past))
    (cases_lt j s.width)

multiplier_same : (b : Bool) (s w : ℕ) (ts : List (ℕ × ℤ)) → IsWithin w ts
    → multiplier_by b s ts ≡ multiplier b s (spread w 0 ts)
multiplier_same true s w ts within = ap (λ (z : ℤ). z -ℤ coefficient ts (suc s)) (sym (spread_is w ts s within)) ∙ ap (λ (z : ℤ). entry (spread w 0 ts) s -ℤ z) (sym (spread_is w ts (suc s) within))
multiplier_same false s w ts within = sym (spread_is w ts s within)

two_heads : (x y : ℤ) (f h : List ℤ) → x ≡ y → f ≡ h → (x ∷ f) ≡ (y ∷ h)
two_heads x y f h p q = rw (p, q) refl

multipliers_same : (rs : List Row) (s w : ℕ) (ts : List (ℕ × ℤ)) → IsWithin w ts
    → multipliers_by rs s ts ≡ multipliers rs s (spread w 0 ts)
multipliers_same [] s w ts within = refl
multipliers_same (r ∷ rs) s w ts within =
    two_heads (multiplier_by r.equation s ts) (multiplier r.equation s (spread w 0 ts)) (multipliers_by rs (next_slack r.equation s) ts) (multipliers rs (next_slack r.equation s) (spread w 0 ts))
    (multiplier_same r.equation s w ts within) (multipliers_same rs (next_slack r.equation s) w ts within)

pub handed_is : (p : Program) (s : Seen) (ts : List (ℕ × ℤ)) (scale : ℤ) (y : List ℤ)
    → spread s.width 0 ts ≡ s.tableau.objective → IsKept s.width ts
    → scale ≡ coefficient ts 1 → y ≡ multipliers_by p.rows (slacks_from p) ts → IsHanded p s.tableau scale y
handed_is p s ts scale y shown kept one made = record {
  scale_is = one ∙ sym (spread_is s.width ts 1 kept.within) ∙ ap (λ (l : List ℤ). entry l 1) shown;
  multipliers = made ∙ multipliers_same p.rows (slacks_from p) s.width ts kept.within ∙ ap (λ (l : List ℤ). multipliers p.rows (slacks_from p) l) shown;
}

grouped : (xs ys zs : List ℤ) → (xs ++ ys) ++ zs ≡ xs ++ (ys ++ zs)
grouped [] ys zs = refl
grouped (x ∷ xs) ys zs = ap (λ (l : List ℤ). x ∷ l) (grouped xs ys zs)

-- ---- the terms left

pub rest_rises : (s : ℕ) (rest new : List (ℕ × ℤ)) → new ≡ dropped s rest → IsAscending rest → IsAscending new
rest_rises s rest new made rises = subst (λ (l : List (ℕ × ℤ)). IsAscending l) (sym made) (dropped_rises s rest rises)

pub rest_same : (s : ℕ) (rest new ts : List (ℕ × ℤ)) → new ≡ dropped s rest
    → ((j : ℕ) → s ≤ j → coefficient rest j ≡ coefficient ts j)
    → (j : ℕ) → s ≤ j → coefficient new j ≡ coefficient ts j
rest_same s rest new ts made same j least = ap (λ (l : List (ℕ × ℤ)). coefficient l j) made ∙ dropped_same s rest j least ∙ same j least

pub rest_above : (s : ℕ) (rest new ts : List (ℕ × ℤ)) → new ≡ dropped s rest
    → ((j : ℕ) → s ≤ j → coefficient rest j ≡ coefficient ts j) → 2 ≤ s
    → ((j : ℕ) → 2 ≤ j → pos 0 ≤ℤ coefficient ts j) → (j : ℕ) → s ≤ j → pos 0 ≤ℤ coefficient new j
rest_above s rest new ts made same two rising j least =
    subst (λ (z : ℤ). pos 0 ≤ℤ z) (sym (rest_same s rest new ts made same j least)) (rising j (omega arith))

pub room : (p : Program) (k s : ℕ) (b : Bool) → k < length p.rows → b ≡ (row_at p.rows k).equation
    → width_from (drop k p.rows) s ≡ width_of p
    → next_slack b s ≤ width_of p
room p k s b below is width = subst (λ (x : Bool). next_slack x s ≤ width_of p) (sym is) (omega (arith, width, slack_below p.rows k s below))

pub same_behind : (b : Bool) (s n : ℕ) (rest ts : List (ℕ × ℤ)) → n ≡ next_slack b s
    → ((j : ℕ) → s ≤ j → coefficient rest j ≡ coefficient ts j) → (j : ℕ) → n ≤ j
    → coefficient rest j ≡ coefficient ts j
same_behind b s n rest ts next same j least = same j (omega (arith, next, next_past b s s (omega arith)))

pub multiplier_there : (b : Bool) (s : ℕ) (rest ts : List (ℕ × ℤ))
    → ((j : ℕ) → s ≤ j → coefficient rest j ≡ coefficient ts j)
    → multiplier_by b s rest ≡ multiplier_by b s ts
multiplier_there true s rest ts same =
    ap (λ (z : ℤ). z -ℤ coefficient rest (suc s)) (same s (omega arith)) ∙ ap (λ (z : ℤ). coefficient ts s -ℤ z) (same (suc s) (omega arith))
multiplier_there false s rest ts same = same s (omega arith)

-- one row more
pub multipliers_more : (rs : List Row) (k s n : ℕ) (ts : List (ℕ × ℤ)) (out new all : List ℤ) (y : ℤ) → k < length rs
    → new ≡ out ++ (y ∷ [])
    → y ≡ multiplier_by (row_at rs k).equation s ts
    → n ≡ next_slack (row_at rs k).equation s → out ++ multipliers_by (drop k rs) s ts ≡ all → new ++ multipliers_by (drop (k + 1) rs) n ts ≡ all
multipliers_more rs k s n ts out new all y below made is next so =
    let rest = multipliers_by (drop (suc k) rs) (next_slack (row_at rs k).equation s) ts in
    ap (λ (l : List Row). new ++ multipliers_by l n ts) (sym (drop_more rs k)) ∙ ap (λ (m : ℕ). new ++ multipliers_by (drop (suc k) rs) m ts) next
    ∙ ap (λ (l : List ℤ). l ++ rest) made ∙ grouped out (y ∷ []) rest ∙ ap (λ (z : ℤ). out ++ (z ∷ rest)) is
    ∙ ap (λ (l : List Row). out ++ multipliers_by l s ts) (sym (row_next rs k below)) ∙ so
