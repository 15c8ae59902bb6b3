-- The lines that a program starts from, by terms in ascending order.
--   first_terms right ts s   an at-most row with its slack s
--   row_held equation r s    the lines of a row, with slacks from s on
--   first_rows rs s          the lines of the rows
--   first_costs costs        the objective
--   AreSmall ts              the numbers have about 33 bits
use Rattle.std.specs.Prelude.{ℕ, suc, ℤ, pos, neg_ℤ, Bool, true, false, List, [], ◌∷◌, ◌++◌}
use Rattle.ipet_rows.specs.Programs.{Row}
use Rattle.dual_check.specs.Terms.{term_if}
use Rattle.simplex_rules.specs.Tableaus.{placed, turned, next_slack}
use Rattle.dual_check.specs.Small.{IsUpTo}
use Rattle.simplex_tableau.specs.Sparse.{HeldTerms}

-- an at-most row with its slack
abbrev pub first_terms : ℤ → List (ℕ × ℤ) → ℕ → List (ℕ × ℤ)
first_terms right ts s = term_if 0 right ++ (placed ts ++ ((s, pos 1) ∷ []))

abbrev pub slack_held : ℤ → List (ℕ × ℤ) → ℕ → HeldTerms
slack_held right ts s = record { basic = s; terms = first_terms right ts s }

-- the lines of a row: an equation as at most, then at least
abbrev pub row_held : Bool → Row → ℕ → List HeldTerms
row_held true r s = slack_held r.right r.terms s ∷ slack_held (neg_ℤ r.right) (turned r.terms) (suc s) ∷ []
row_held false r s = slack_held r.right r.terms s ∷ []

-- the lines of the rows
abbrev pub first_rows : List Row → ℕ → List HeldTerms
first_rows [] s = []
first_rows (r ∷ rs) s = row_held r.equation r s ++ first_rows rs (next_slack r.equation s)

-- minus the costs other than 0, from place j on
abbrev pub some_costs : List ℕ → ℕ → List (ℕ × ℤ)
some_costs [] j = []
some_costs (c ∷ cs) j = term_if j (neg_ℤ (pos c)) ++ some_costs cs (suc j)

-- the objective
abbrev pub first_costs : List ℕ → List (ℕ × ℤ)
first_costs cs = (1, pos 1) ∷ some_costs cs 2

-- the numbers have about 33 bits
abbrev pub AreSmall : List (ℕ × ℤ) → Type 0
AreSmall [] = Unit {0}
AreSmall (t ∷ ts) = IsUpTo 8589934592 t.1 × AreSmall ts
