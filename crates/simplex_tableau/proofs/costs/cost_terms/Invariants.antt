-- What was appended, and then the costs of the columns left, is all.
use Rattle.std.proofs.Common.{◌≡◌, ◌++◌, ◌+◌, drop}
use Rattle.simplex_tableau.specs.FirstTerms.{some_costs, first_costs}
use Rattle.simplex_tableau.proofs.costs.cost_terms.Given as goal

abbrev pub invariant-loop-column : goal.invariant-loop-column
invariant-loop-column l = l.out.items ++ some_costs (drop l.column l.rows.program.costs) (l.column + 2) ≡ first_costs l.rows.program.costs
