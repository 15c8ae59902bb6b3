-- Laws of first tableau.
--   cost_past   no cost after the columns
use Rattle.std.proofs.Common.{◌≡◌, ℕ, pos, ◌+◌, ◌≤◌, arith, length, subst}
use Rattle.std.proofs.lemmas.Int.{ints}
use Rattle.ipet_rows.specs.Sums.{coefficient}
use Rattle.ipet_rows.specs.Programs.{Program, IsWithin}
use Rattle.ipet_rows.specs.SumLaws.{term_elsewhere}
use Rattle.simplex_rules.specs.Tableaus.{cost_terms, objective_line, slacks_from}
use Rattle.simplex_rules.specs.FirstTableauLaws.{beyond, within_costs}

-- Terms within a width.

-- no cost after the columns
pub cost_past : (p : Program) (j : ℕ) → slacks_from p ≤ j → coefficient (objective_line p.costs).1 j ≡ pos 0
cost_past p j past =
    let q : 2 + length p.costs ≡ slacks_from p = omega arith in
    let within : IsWithin (slacks_from p) (cost_terms p.costs 2) = subst (λ (k : ℕ). IsWithin k (cost_terms p.costs 2)) q (within_costs p.costs 2) in
    omega (arith, ints, term_elsewhere 1 j (pos 1) (λ (z : 1 ≡ j). absurd (omega arith)), beyond (slacks_from p) (cost_terms p.costs 2) j within past)
