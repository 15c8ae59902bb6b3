-- What is left to show of `iterations_are_parts_of_executions`.
use Rattle.domain_core.specs.IterationLaws.{found_iteration, iteration_found}
use Rattle.domain_core.proofs.laws.iterations_are_parts_of_executions.Goals as goal

pub returns-clause-found : goal.returns-clause-found
returns-clause-found c = found_iteration

pub returns-clause-all : goal.returns-clause-all
returns-clause-all c = iteration_found
