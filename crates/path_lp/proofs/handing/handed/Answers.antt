-- What is handed out is the tableau's.
use Rattle.std.proofs.Common.{rules, to_z, of_z, ◌≡◌, ◌∙◌, ◌≤◌, ℕ, ℤ, pos, List, sym, subst, arith}
use Rattle.std.specs.Int.{w128}
use Rattle.std.proofs.lemmas.Int.{to_z-of_z}
use Rattle.std.specs.Prelude.{◌≤ℤ◌}
use Rattle.ipet_rows.specs.Sums.{coefficient}
use Rattle.simplex_rules.specs.Tableaus.{slacks_from}
use Rattle.path_lp.specs.Handing.{multipliers_by}
use Rattle.path_lp.proofs.HandingLaws.{objective_rising, handed_is}
use Rattle.path_lp.proofs.handing.handed.Goals as goal

pub multipliers-requires-clause-rising : goal.multipliers-requires-clause-rising
multipliers-requires-clause-rising c =
    subst (λ (ts : List (ℕ × ℤ)). (j : ℕ) → 2 ≤ j → pos 0 ≤ℤ coefficient ts j) (sym c.terms.ensures.value)
    (objective_rising c.args.rows.now.program c.args.tableau.now c.objective-objective.result.now c.requires c.objective-objective.ensures.shown c.objective-objective.ensures.kept)

pub returns : goal.returns
returns c =
    let scale : to_z w128 (of_z w128 c.number-scale.result) ≡ c.number-scale.result = grind (arith, to_z-of_z) in
    let one : c.number-scale.result ≡ coefficient c.objective-objective.result.now 1 = c.number-scale.ensures ∙ c.number_at.ensures in
    let made : c.in_ok-multipliers.multipliers.items ≡ multipliers_by c.args.rows.now.program.rows (slacks_from c.args.rows.now.program) c.objective-objective.result.now = search (rules) in
    rw scale (handed_is c.args.rows.now.program c.args.tableau.now c.objective-objective.result.now c.number-scale.result c.in_ok-multipliers.multipliers.items
    c.objective-objective.ensures.shown c.objective-objective.ensures.kept one made)
