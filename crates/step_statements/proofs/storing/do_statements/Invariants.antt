use Rattle.std.proofs.Common.{◌≡◌, length, map}
use Rattle.std.specs.List.{AllByRecursion}
use Rattle.alf_check.specs.CheckedPrograms.{act_of}
use Rattle.memory_model.specs.KeptMemories.{memory_in, rows_of, IsMemory}
use Rattle.transfer_rules.specs.Remains.{with_faults}
use Rattle.transfer_rules.specs.Doing.{after_statements}
use Rattle.step_statements.specs.Typed.{IsTypedStatement}
use Rattle.step_statements.proofs.storing.do_statements.Given as goal

abbrev pub invariant-loop-act : goal.invariant-loop-act
invariant-loop-act l = record {
  typed : AllByRecursion IsTypedStatement (map act_of l.rest);
  checked : l.memory.checked ≡ l.fn.memory.checked;
  kept : IsMemory l.memory;
  goes_on : with_faults l.faults (after_statements (rows_of l.fn.memory.checked) (map act_of l.rest) (memory_in l.memory)) ≡ after_statements (rows_of l.fn.memory.checked) (map act_of l.acts) (memory_in l.fn.memory);
}

abbrev pub decreases-loop-act : goal.decreases-loop-act
decreases-loop-act l = length l.rest
