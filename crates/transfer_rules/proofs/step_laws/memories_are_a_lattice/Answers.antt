use Rattle.transfer_rules.proofs.MachineLemmas.{memory_is_order}
use Rattle.transfer_rules.proofs.step_laws.memories_are_a_lattice.Goals as goal

pub returns : goal.returns
returns c = memory_is_order
