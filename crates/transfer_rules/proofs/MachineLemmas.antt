-- On the way to the laws of machine.
--   memory_is_order              memories of a program are a lattice
use Rattle.std.proofs.Common.{List}
use Rattle.alf_ops.specs.declared.history.RunEvent.{RunEvent}
use Rattle.alf_check.specs.CheckedPrograms.{NumberedProgram}
use Rattle.alf_runs.specs.Steps.{frames_of}
use Rattle.domain_core.specs.Orders.{IsOrder}
use Rattle.memory_rules.specs.Memories.{Mem, both}
use Rattle.memory_rules.specs.AbstractSets.{abstract_sets}
use Rattle.memory_rules.specs.AbstractSetLaws.{abstract_is_sets}
use Rattle.memory_rules.specs.MemoryProofLaws.{join_covers}
use Rattle.transfer_rules.specs.Machines.{CoversHistory, AreAlike, memory_order}

-- ---- memories as a lattice

join_left : (program : NumberedProgram) (a b : Mem abstract_sets) → AreAlike a b → (history : List RunEvent)
    → CoversHistory program a history → CoversHistory program (both abstract_sets a b) history
join_left program a b alike history h = record {
  sound = h.sound;
  covers = (join_covers abstract_sets abstract_is_sets (frames_of program) a b history h.sound alike.first alike.second alike.runs).0 h.covers;
}

join_right : (program : NumberedProgram) (a b : Mem abstract_sets) → AreAlike a b → (history : List RunEvent)
    → CoversHistory program b history → CoversHistory program (both abstract_sets a b) history
join_right program a b alike history h = record {
  sound = h.sound;
  covers = (join_covers abstract_sets abstract_is_sets (frames_of program) a b history h.sound alike.first alike.second alike.runs).1 h.covers;
}

pub memory_is_order : (program : NumberedProgram) → IsOrder (Mem abstract_sets) (memory_order program)
memory_is_order program = record {
  itself = λ a history h. h;
  farther = λ a b c first second history h. second history (first history h);
  left = join_left program;
  right = join_right program;
}
