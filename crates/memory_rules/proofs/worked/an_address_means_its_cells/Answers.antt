use Rattle.memory_rules.proofs.WorkedRows.{means_four, means_none}
use Rattle.memory_rules.proofs.worked.an_address_means_its_cells.Goals as goal

pub returns-clause-cells : goal.returns-clause-cells
returns-clause-cells c = means_four

pub returns-clause-past : goal.returns-clause-past
returns-clause-past c = means_none
