-- What is left to show of `no_fault_is_by_parts`.
use Rattle.alf_faults.proofs.FaultItems.{by_parts}
use Rattle.alf_faults.proofs.laws.no_fault_is_by_parts.Goals as goal

pub returns : goal.returns
returns c = by_parts
