use Rattle.std.proofs.Common.{◌≡◌, length}
use Rattle.memory_model.specs.KeptMemories.{memory_in, IsMemory}
use Rattle.transfer_rules.specs.Filling.{with_inputs}
use Rattle.abstract_step.specs.Inputs.{HaveInputRoom}
use Rattle.abstract_step.proofs.start.put_inputs.Given as goal

abbrev pub invariant-loop-row : goal.invariant-loop-row
invariant-loop-row l = record {
  kept : IsMemory l.memory;
  checked : l.memory.checked ≡ l.fn.memory.checked;
  room : HaveInputRoom l.memory l.rest;
  goes_on : with_inputs l.rest (memory_in l.memory) ≡ with_inputs l.rows (memory_in l.fn.memory);
}

abbrev pub decreases-loop-row : goal.decreases-loop-row
decreases-loop-row l = length l.rest
