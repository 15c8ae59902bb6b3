-- What is left to show of `mix_all`: facts of the proof files, applied.
use Rattle.abstract_memory.proofs.Changing.{mixed_more}
use Rattle.abstract_memory.proofs.stores.mix_all.Goals as goal

pub loop-cell-preserved : goal.loop-cell-preserved
loop-cell-preserved c =
    mixed_more c.args.frames.now c.args.cells.now c.args.size c.args.value.now c.loop-cell.frames c.mix_in.new.frames c.loop-cell.rest.now c.in-Some.others.now c.in-Some.cell.now
    c.in-Some.ensures.cases.0 c.loop-cell.invariant c.in_ok-mix_in.ensures
