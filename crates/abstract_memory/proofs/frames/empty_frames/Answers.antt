-- What is left to show of `empty_frames`: facts of the proof files, applied.
use Rattle.abstract_memory.proofs.Entered.{entered_step}
use Rattle.abstract_memory.proofs.frames.empty_frames.Goals as goal

pub loop-at-preserved : goal.loop-at-preserved
loop-at-preserved c =
    entered_step c.args.rows.now c.args.frames.now c.loop-at.frames c.args.func c.loop-at.at c.index-rows-at.result c.index-frames-at.result c.empty_frame.new.slots
    c.requires c.loop-at-test.true c.loop-at.invariant c.index-rows-at.is c.in_ok-empty_frame.ensures
