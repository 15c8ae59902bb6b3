-- What is left to show of `memories_are_a_lattice`: facts of the proof files, applied.
use Rattle.memory_model.proofs.Lattice.{memories_are}
use Rattle.memory_model.proofs.held_laws.memories_are_a_lattice.Goals as goal

pub returns : goal.returns
returns c = memories_are
