-- Laws of row steps.
--   row_next, drop_more   what is left is the next one and what is left after it
--   width_next, width_more, slack_below   the rows left end at the width, and their slacks lie below it
use Rattle.std.proofs.Common.{◌≡◌, ℕ, zero, suc, ◌+◌, ◌<◌, ◌≤◌, arith, refl, sym, ap, ◌∙◌, List, [], ◌∷◌, length, drop, Bool, true, false}
use Rattle.ipet_rows.specs.Programs.{Row, row_at}
use Rattle.simplex_rules.specs.Tableaus.{next_slack, width_from}
use Rattle.simplex_rules.specs.HandedOutLaws.{width_above}

pub row_next : (rs : List Row) (k : ℕ) → k < length rs → drop k rs ≡ row_at rs k ∷ drop (suc k) rs
row_next [] k below = absurd (omega arith)
row_next (r ∷ rs) zero below = refl
row_next (r ∷ rs) (suc k) below = row_next rs k (omega arith)

-- the width of the rows from k on is that of those after it, from the next slack on
pub width_next : (rs : List Row) (k s : ℕ) → k < length rs
    → width_from (drop k rs) s ≡ width_from (drop (suc k) rs) (next_slack (row_at rs k).equation s)
width_next rs k s below = ap (λ (l : List Row). width_from l s) (row_next rs k below)

pub slack_below : (rs : List Row) (k s : ℕ) → k < length rs
    → next_slack (row_at rs k).equation s ≤ width_from (drop k rs) s
slack_below rs k s below = omega (arith, width_next rs k s below, width_above (drop (suc k) rs) (next_slack (row_at rs k).equation s))

pub next_past : (b : Bool) (n s : ℕ) → n ≤ s → n ≤ next_slack b s
next_past true n s less = omega arith
next_past false n s less = omega arith

pub drop_more : {A : Type 0} (xs : List A) (k : ℕ) → drop (suc k) xs ≡ drop (k + 1) xs
drop_more xs k = ap (λ (n : ℕ). drop n xs) (let e : suc k ≡ k + 1 = omega arith in e)

-- one row more
pub width_more : (rs : List Row) (k s n w : ℕ) → k < length rs → n ≡ next_slack (row_at rs k).equation s
    → width_from (drop k rs) s ≡ w
    → width_from (drop (k + 1) rs) n ≡ w
width_more rs k s n w below next width =
    ap (λ (l : List Row). width_from l n) (sym (drop_more rs k)) ∙ ap (λ (m : ℕ). width_from (drop (suc k) rs) m) next ∙ sym (width_next rs k s below) ∙ width
