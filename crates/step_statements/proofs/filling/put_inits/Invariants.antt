use Rattle.std.proofs.Common.{◌≡◌, length}
use Rattle.memory_model.specs.KeptMemories.{memory_in, IsMemory}
use Rattle.transfer_rules.specs.Filling.{with_inits}
use Rattle.step_statements.specs.Rooms.{HaveRoom}
use Rattle.step_statements.proofs.filling.put_inits.Given as goal

abbrev pub invariant-loop-init : goal.invariant-loop-init
invariant-loop-init l = record {
  kept : IsMemory l.memory;
  checked : l.memory.checked ≡ l.fn.memory.checked;
  room : HaveRoom l.memory l.rest;
  goes_on : with_inits l.rest (memory_in l.memory) ≡ with_inits l.inits (memory_in l.fn.memory);
}

abbrev pub decreases-loop-init : goal.decreases-loop-init
decreases-loop-init l = length l.rest
