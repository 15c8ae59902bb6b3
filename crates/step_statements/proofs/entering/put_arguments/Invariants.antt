use Rattle.std.proofs.Common.{◌≡◌, length}
use Rattle.memory_model.specs.KeptMemories.{memory_in, IsMemory}
use Rattle.transfer_rules.specs.Filling.{with_arguments}
use Rattle.step_statements.specs.Arguments.{HaveFrames}
use Rattle.step_statements.proofs.entering.put_arguments.Given as goal

abbrev pub invariant-loop-frame : goal.invariant-loop-frame
invariant-loop-frame l = record {
  kept : IsMemory l.memory;
  checked : l.memory.checked ≡ l.fn.memory.checked;
  frames : HaveFrames l.memory l.rest l.left;
  goes_on : with_arguments l.rest l.left (memory_in l.memory) ≡ with_arguments l.args l.values (memory_in l.fn.memory);
}

abbrev pub decreases-loop-frame : goal.decreases-loop-frame
decreases-loop-frame l = length l.rest
