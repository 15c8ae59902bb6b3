-- Laws of row steps.
--   cost_next   what is left is the next one and what is left after it
--   rows_end, costs_end   past the last nothing is left
--   rows_more, costs_more what was made so far, and then what is left, is all
use Rattle.std.proofs.Common.{◌≡◌, ℕ, ℤ, pos, neg_ℤ, zero, suc, ◌+◌, ◌<◌, ◌≤◌, arith, refl, sym, ap, ◌∙◌, List, [], ◌∷◌, ◌++◌, length, drop}
use Rattle.ipet_rows.specs.Programs.{Row, Program, row_at, cost_at}
use Rattle.simplex_rules.specs.Tableaus.{next_slack, slacks_from, width_of}
use Rattle.simplex_rules.specs.HandedOutLaws.{width_above}
use Rattle.dual_check.specs.Terms.{term_if}
use Rattle.simplex_tableau.specs.Sparse.{HeldTerms}
use Rattle.simplex_tableau.specs.FirstTerms.{row_held, first_rows, some_costs}
use Rattle.simplex_tableau.specs.RowStepLaws.{row_next, drop_more}

pub cost_next : (cs : List ℕ) (k : ℕ) → k < length cs → drop k cs ≡ cost_at cs k ∷ drop (suc k) cs
cost_next [] k below = absurd (omega arith)
cost_next (c ∷ cs) zero below = refl
cost_next (c ∷ cs) (suc k) below = cost_next cs k (omega arith)

pub rows_end : (rs : List Row) (k : ℕ) → length rs ≤ k → drop k rs ≡ []
rows_end [] zero past = refl
rows_end [] (suc k) past = refl
rows_end (r ∷ rs) zero past = absurd (omega arith)
rows_end (r ∷ rs) (suc k) past = rows_end rs k (omega arith)

pub costs_end : (cs : List ℕ) (k : ℕ) → length cs ≤ k → drop k cs ≡ []
costs_end [] zero past = refl
costs_end [] (suc k) past = refl
costs_end (c ∷ cs) zero past = absurd (omega arith)
costs_end (c ∷ cs) (suc k) past = costs_end cs k (omega arith)

pub rows_next : (rs : List Row) (k s : ℕ) → k < length rs
    → first_rows (drop k rs) s ≡ row_held (row_at rs k).equation (row_at rs k) s ++ first_rows (drop (suc k) rs) (next_slack (row_at rs k).equation s)
rows_next rs k s below = ap (λ (l : List Row). first_rows l s) (row_next rs k below)

pub costs_next : (cs : List ℕ) (k j : ℕ) → k < length cs
    → some_costs (drop k cs) j ≡ term_if j (neg_ℤ (pos (cost_at cs k))) ++ some_costs (drop (suc k) cs) (suc j)
costs_next cs k j below = ap (λ (l : List ℕ). some_costs l j) (cost_next cs k below)

pub slacks_are : (p : Program) → length p.costs + 2 ≡ slacks_from p
slacks_are p = omega arith

pub columns_below : (p : Program) (w : ℕ) → w ≡ width_of p → length p.costs + 2 ≤ w
columns_below p w width = omega (arith, width, width_above p.rows (slacks_from p))

grouped : {A : Type 0} (xs ys zs : List A) → (xs ++ ys) ++ zs ≡ xs ++ (ys ++ zs)
grouped [] ys zs = refl
grouped (x ∷ xs) ys zs = ap (λ l. x ∷ l) (grouped xs ys zs)

pub rows_more : (rs : List Row) (k s n : ℕ) (out new all : List HeldTerms) → k < length rs
    → new ≡ out ++ row_held (row_at rs k).equation (row_at rs k) s
    → n ≡ next_slack (row_at rs k).equation s → out ++ first_rows (drop k rs) s ≡ all → new ++ first_rows (drop (k + 1) rs) n ≡ all
rows_more rs k s n out new all below made next so =
    let held = row_held (row_at rs k).equation (row_at rs k) s in
    ap (λ (l : List Row). new ++ first_rows l n) (sym (drop_more rs k)) ∙ ap (λ (m : ℕ). new ++ first_rows (drop (suc k) rs) m) next
    ∙ ap (λ (l : List HeldTerms). l ++ first_rows (drop (suc k) rs) (next_slack (row_at rs k).equation s)) made
    ∙ grouped out held (first_rows (drop (suc k) rs) (next_slack (row_at rs k).equation s))
    ∙ ap (λ (l : List HeldTerms). out ++ l) (sym (rows_next rs k s below)) ∙ so

pub costs_more : (cs : List ℕ) (k : ℕ) (out new all : List (ℕ × ℤ)) → k < length cs
    → new ≡ out ++ term_if (k + 2) (neg_ℤ (pos (cost_at cs k)))
    → out ++ some_costs (drop k cs) (k + 2) ≡ all → new ++ some_costs (drop (k + 1) cs) (k + 1 + 2) ≡ all
costs_more cs k out new all below made so =
    let term = term_if (k + 2) (neg_ℤ (pos (cost_at cs k))) in
    ap (λ (l : List ℕ). new ++ some_costs l (k + 1 + 2)) (sym (drop_more cs k))
    ∙ ap (λ (m : ℕ). new ++ some_costs (drop (suc k) cs) m) (let e : k + 1 + 2 ≡ suc (k + 2) = omega arith in e)
    ∙ ap (λ (l : List (ℕ × ℤ)). l ++ some_costs (drop (suc k) cs) (suc (k + 2))) made
    ∙ grouped out term (some_costs (drop (suc k) cs) (suc (k + 2)))
    ∙ ap (λ (l : List (ℕ × ℤ)). out ++ l) (sym (costs_next cs k (k + 2) below)) ∙ so
