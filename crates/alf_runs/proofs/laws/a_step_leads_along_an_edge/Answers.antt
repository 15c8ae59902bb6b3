use Rattle.alf_runs.proofs.Along.{step_along}
use Rattle.alf_runs.proofs.KeptNodes.{kept_nodes, leads_on}
use Rattle.alf_runs.proofs.laws.a_step_leads_along_an_edge.Goals as goal

pub returns-clause-along : goal.returns-clause-along
returns-clause-along c = step_along

pub returns-clause-next : goal.returns-clause-next
returns-clause-next c = leads_on

pub returns-clause-kept : goal.returns-clause-kept
returns-clause-kept c = kept_nodes
