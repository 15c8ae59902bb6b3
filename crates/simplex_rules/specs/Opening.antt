-- The opening: after the pivots on rows that share no column, the objective's numbers are at least 0.
-- Shows: all of it follows from soundness and the basic places; no line of the opening is computed.
use Rattle.std.proofs.Common.{◌≡◌, ℕ, ◌<◌, List, length}
use Rattle.ipet_rows.specs.Programs.{Program}
use Rattle.simplex_rules.specs.Tableaus.{Tableau, basic_at, all_lines, width_of}
use Rattle.simplex_rules.specs.PivotRule.{opening_at}
use Rattle.simplex_rules.specs.Promise.{lines_of, mark_at}
use Rattle.simplex_rules.specs.Pivoting.{IsSoundTableau}

-- after m openings
pub record IsOpened (p : Program) (os : List (ℕ × ℕ)) (m : ℕ) (t : Tableau) : Type 0 where
  pub sound : IsSoundTableau (all_lines p) (width_of p) t
  pub count : length t.rows ≡ length (lines_of p)
  pub bases : (i : ℕ) → i < m → basic_at t (opening_at os i).0 ≡ (opening_at os i).1
  pub others : (k : ℕ) → k < length (lines_of p) → ((i : ℕ) → i < m → k ≡ (opening_at os i).0 → ⊥)
      → basic_at t k ≡ mark_at p k
