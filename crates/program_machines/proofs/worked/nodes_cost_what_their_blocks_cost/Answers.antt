-- What is left to show of `nodes_cost_what_their_blocks_cost`.
use Rattle.std.proofs.Common.{refl}
use Rattle.program_machines.proofs.worked.nodes_cost_what_their_blocks_cost.Goals as goal

pub returns-clause-entry : goal.returns-clause-entry
returns-clause-entry c = refl

pub returns-clause-block : goal.returns-clause-block
returns-clause-block c = refl

pub returns-clause-called : goal.returns-clause-called
returns-clause-called c = refl
