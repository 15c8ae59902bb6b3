-- What is left to show of `load_any`: facts of the proof files, applied.
use Rattle.abstract_memory.proofs.MemoryLone.{lone_loads}
use Rattle.abstract_memory.proofs.loads.load_any.Goals as goal

pub returns : goal.returns
returns c = λ rows running at only.
    lone_loads rows at c.args.size c.args.cell running c.args.frames.now c.none.result c.in_ok-loaded.loaded c.none.ensures only c.in_ok-loaded.ensures.value c.in_ok-loaded.ensures.sized
