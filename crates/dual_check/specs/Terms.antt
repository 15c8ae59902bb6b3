-- Terms as they are made.
--   term_if k z          the term of a number that is not 0
--   fault_if o n is      the fault column, if there is one
--   AreFrom n columns    the columns lead from the first n nodes, and into them or to the end
use Rattle.std.specs.Prelude.{◌<◌, ◌≤◌, ℕ, ℤ, Bool, true, List, [], ◌∷◌, if◌then◌else◌}
use Rattle.ipet_rows.specs.Columns.{Column}
use Rattle.ipet_rows.specs.Rows.{vanishes}

-- the term of a number that is not 0
abbrev pub term_if : ℕ → ℤ → List (ℕ × ℤ)
term_if k z = if vanishes z then [] else ((k, z) ∷ [])

-- the fault column, if there is one
abbrev pub fault_if : ℕ → ℕ → Bool → List Column
fault_if end n is = if is then (record { from = n; into = end; fault = true } ∷ []) else []

-- the columns lead from the first n nodes, and into them or to the end
abbrev pub AreFrom : ℕ → List Column → Type 0
AreFrom n [] = Unit {0}
AreFrom n (c ∷ cs) = (c.from < n) × (c.into ≤ n) × AreFrom n cs
