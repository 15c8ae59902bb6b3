-- What is left to show of `store_lone`: facts of the proof files, applied.
use Rattle.abstract_memory.proofs.MemoryLone.{lone_changes, lone_faults}
use Rattle.abstract_memory.proofs.stores.store_lone.Goals as goal

pub returns-clause-changes : goal.returns-clause-changes
returns-clause-changes c = λ rows runs at only.
    lone_changes rows at c.args.size c.args.cell runs c.args.frames.now c.store_in.new.frames c.args.value.now c.in_ok-store_in.ensures only

pub returns-clause-faults : goal.returns-clause-faults
returns-clause-faults c = λ rows runs at only. lone_faults rows at c.args.size c.args.cell runs c.none.result c.none.ensures only
