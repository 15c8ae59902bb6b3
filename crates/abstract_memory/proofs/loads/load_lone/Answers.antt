-- What is left to show of `load_lone`: facts of the proof files, applied.
use Rattle.std.proofs.Common.{Some, subst, sym}
use Rattle.pointer_rules.specs.AbstractValues.{AbstractValue}
use Rattle.memory_model.specs.HeldMemories.{memory_of}
use Rattle.abstract_memory.specs.Cells.{Loads}
use Rattle.abstract_memory.proofs.MemoryLone.{known_loads}
use Rattle.abstract_memory.proofs.loads.load_lone.Goals as goal

pub returns : goal.returns
returns c = λ rows running at only.
    subst (λ (v : AbstractValue). Loads rows (memory_of running c.args.frames.now) at c.args.size (Some v, c.none.result)) (sym c.in_ok-copy.ensures)
    (known_loads rows at c.args.size c.args.cell running c.args.frames.now c.none.result c.in-Some.value.now c.none.ensures only c.in-Some.ensures.value c.in-Some.ensures.sized)
