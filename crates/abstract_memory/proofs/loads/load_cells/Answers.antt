-- What is left to show of `load_cells`: facts of the proof files, applied.
use Rattle.abstract_memory.proofs.Loading.{loaded_more}
use Rattle.abstract_memory.proofs.loads.load_cells.Goals as goal

pub loop-cell-preserved : goal.loop-cell-preserved
loop-cell-preserved c =
    loaded_more c.args.frames.now c.args.cells.now c.args.size c.args.before c.loop-cell.loaded c.in_ok-loaded.loaded c.loop-cell.rest.now c.in-Some.others.now c.in-Some.cell.now
    c.in-Some.ensures.cases.0 c.loop-cell.invariant c.in_ok-loaded.ensures.value c.in_ok-loaded.ensures.sized
