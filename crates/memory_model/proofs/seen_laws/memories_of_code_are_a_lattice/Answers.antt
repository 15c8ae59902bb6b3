-- What is left to show of `memories_of_code_are_a_lattice`: a fact of the specs.
use Rattle.memory_model.specs.SeenOrderLaws.{parts_are_order}
use Rattle.memory_model.proofs.seen_laws.memories_of_code_are_a_lattice.Goals as goal

pub returns : goal.returns
returns c = parts_are_order
