-- What is left to show of `iteration_numbers_count_headers`.
use Rattle.domain_core.proofs.ExecutionLemmas.{turns_mean}
use Rattle.domain_core.proofs.laws.iteration_numbers_count_headers.Goals as goal

pub returns : goal.returns
returns c = turns_mean
