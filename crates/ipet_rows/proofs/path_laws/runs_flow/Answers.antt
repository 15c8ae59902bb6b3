-- What is left to show of `runs_flow`.
use Rattle.ipet_rows.specs.FlowLaws.{left, flow_is}
use Rattle.ipet_rows.proofs.path_laws.runs_flow.Goals as goal

pub returns-clause-left : goal.returns-clause-left
returns-clause-left c = left

pub returns-clause-flow : goal.returns-clause-flow
returns-clause-flow c = flow_is
