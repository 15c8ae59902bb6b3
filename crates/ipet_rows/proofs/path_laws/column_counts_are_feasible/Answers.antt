-- What is left to show of `column_counts_are_feasible`.
use Rattle.ipet_rows.specs.FeasibleLaws.{feasible, worth_cost}
use Rattle.ipet_rows.proofs.path_laws.column_counts_are_feasible.Goals as goal

pub returns-clause-feasible : goal.returns-clause-feasible
returns-clause-feasible c = feasible

pub returns-clause-worth : goal.returns-clause-worth
returns-clause-worth c = worth_cost
