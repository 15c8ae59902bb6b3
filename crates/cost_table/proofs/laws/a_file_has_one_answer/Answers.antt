use Rattle.cost_table.proofs.OneInputs.{inputs_one}
use Rattle.cost_table.proofs.OneCosts.{costs_one}
use Rattle.cost_table.proofs.KeptRows.{means_keep}
use Rattle.cost_table.proofs.laws.a_file_has_one_answer.Goals as goal

pub returns-clause-inputs : goal.returns-clause-inputs
returns-clause-inputs c = inputs_one

pub returns-clause-costs : goal.returns-clause-costs
returns-clause-costs c = costs_one

pub returns-clause-keep : goal.returns-clause-keep
returns-clause-keep c = means_keep
