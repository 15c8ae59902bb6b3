-- Tableaus, and the lines that a program starts from.
--   Held           a line with its basic place
--   Tableau        the rows, and the objective
--   generators     the objective's and each row's first line, each with its mark: the place that is 1 in it alone
--   multipliers    what an objective hands out
use Rattle.std.specs.Prelude.{ℕ, zero, suc, ℤ, pos, neg_ℤ, ◌-ℤ◌, Bool, true, false, List, [], ◌∷◌, length}
use Rattle.ipet_rows.specs.Programs.{Row, Program}
use Rattle.ipet_rows.specs.Firsts.{entry}
use Rattle.simplex_rules.specs.Lines.{spread}

-- a line with its basic place
pub record Held : Type 0 where
  pub basic : ℕ
  pub line : List ℤ

-- the rows, and the objective
pub record Tableau : Type 0 where
  pub rows : List Held
  pub objective : List ℤ

-- no line
abbrev pub no_held : Held
no_held = record { basic = 0; line = [] }

-- row k
abbrev pub held_at : List Held → ℕ → Held
held_at [] k = no_held
held_at (h ∷ hs) zero = h
held_at (h ∷ hs) (suc k) = held_at hs k

-- the number of row k at place j
abbrev pub number_at : Tableau → ℕ → ℕ → ℤ
number_at t k j = entry (held_at t.rows k).line j

-- the basic place of row k
abbrev pub basic_at : Tableau → ℕ → ℕ
basic_at t k = (held_at t.rows k).basic

-- a mark, and terms by place
abbrev pub Generator : Type 0
Generator = ℕ × List (ℕ × ℤ)

-- the terms at the places of their variables
abbrev pub placed : List (ℕ × ℤ) → List (ℕ × ℤ)
placed [] = []
placed (t ∷ ts) = (suc (suc t.0), t.1) ∷ placed ts

-- each number turned
abbrev pub turned : List (ℕ × ℤ) → List (ℕ × ℤ)
turned [] = []
turned (t ∷ ts) = (t.0, neg_ℤ t.1) ∷ turned ts

-- the first line of an at-most row with its slack
abbrev pub slack_line : ℤ → List (ℕ × ℤ) → ℕ → Generator
slack_line right ts s = (s, (0, right) ∷ (s, pos 1) ∷ placed ts)

-- the first slack after those of a row
abbrev pub next_slack : Bool → ℕ → ℕ
next_slack true s = suc (suc s)
next_slack false s = suc s

-- a row's lines: an equation as at most, then at least
abbrev pub row_lines : Bool → Row → ℕ → List Generator → List Generator
row_lines true r s more = slack_line r.right r.terms s ∷ slack_line (neg_ℤ r.right) (turned r.terms) (suc s) ∷ more
row_lines false r s more = slack_line r.right r.terms s ∷ more

-- the lines of the rows, with slacks from place s on
abbrev pub generators : List Row → ℕ → List Generator
generators [] s = []
generators (r ∷ rs) s = row_lines r.equation r s (generators rs (next_slack r.equation s))

-- the place after the last slack
abbrev pub width_from : List Row → ℕ → ℕ
width_from [] s = s
width_from (r ∷ rs) s = width_from rs (next_slack r.equation s)

-- minus the costs, from place j on
abbrev pub cost_terms : List ℕ → ℕ → List (ℕ × ℤ)
cost_terms [] j = []
cost_terms (c ∷ cs) j = (j, neg_ℤ (pos c)) ∷ cost_terms cs (suc j)

-- the first objective: z less the costs is 0
abbrev pub objective_line : List ℕ → Generator
objective_line cs = (1, (1, pos 1) ∷ cost_terms cs 2)

-- the place of the first slack
abbrev pub slacks_from : Program → ℕ
slacks_from p = suc (suc (length p.costs))

-- all first lines
abbrev pub all_lines : Program → List Generator
all_lines p = objective_line p.costs ∷ generators p.rows (slacks_from p)

-- the number of places
abbrev pub width_of : Program → ℕ
width_of p = width_from p.rows (slacks_from p)

-- the first rows: each slack is basic in its line
abbrev pub held_of : ℕ → List Generator → List Held
held_of w [] = []
held_of w (g ∷ gs) = record { basic = g.0; line = spread w 0 g.1 } ∷ held_of w gs

-- the tableau before the opening
abbrev pub first_tableau : Program → Tableau
first_tableau p = record {
  rows = held_of (width_of p) (generators p.rows (slacks_from p));
  objective = spread (width_of p) 0 (objective_line p.costs).1;
}

-- the multiplier of a row
abbrev pub multiplier : Bool → ℕ → List ℤ → ℤ
multiplier true s d = entry d s -ℤ entry d (suc s)
multiplier false s d = entry d s

-- the multipliers that an objective hands out
abbrev pub multipliers : List Row → ℕ → List ℤ → List ℤ
multipliers [] s d = []
multipliers (r ∷ rs) s d = multiplier r.equation s d ∷ multipliers rs (next_slack r.equation s) d
