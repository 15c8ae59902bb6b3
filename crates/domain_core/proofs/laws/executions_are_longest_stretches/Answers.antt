-- What is left to show of `executions_are_longest_stretches`.
use Rattle.domain_core.specs.ExecutionLaws.{found_execution, execution_found}
use Rattle.domain_core.proofs.ExecutionLemmas.{execution_starts}
use Rattle.domain_core.proofs.laws.executions_are_longest_stretches.Goals as goal

pub returns-clause-found : goal.returns-clause-found
returns-clause-found c = found_execution

pub returns-clause-all : goal.returns-clause-all
returns-clause-all c = execution_found

pub returns-clause-starts : goal.returns-clause-starts
returns-clause-starts c = execution_starts
