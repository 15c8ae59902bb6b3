-- What is left to show of `load_in`: facts of the proof files, applied.
use Rattle.std.proofs.Common.{◌≡◌, ◌∙◌, ap, Bool, List}
use Rattle.std.proofs.lemmas.Result.{IfOk-weaker}
use Rattle.memory_rules.specs.AbstractSets.{abstract_sets}
use Rattle.memory_rules.specs.Frames.{FrameMem, load_results}
use Rattle.memory_model.specs.HeldFrames.{frame_of}
use Rattle.memory_model.specs.HeldMemories.{memory_of}
use Rattle.frame_memory.specs.LoadedResults.{onto}
use Rattle.abstract_memory.proofs.Changing.{own_sized, own_frame}
use Rattle.abstract_memory.proofs.loads.load_in.Goals as goal

pub load_onto-requires-clause-frame_sized : goal.load_onto-requires-clause-frame_sized
load_onto-requires-clause-frame_sized c = own_sized c.args.frames.now c.args.size c.args.cell c.index-frames-frame.result c.requires.fits c.index-frames-frame.is c.requires.sized

pub returns-clause-value : goal.returns-clause-value
returns-clause-value c =
    IfOk-weaker c.load_onto.result
    (λ now. now ≡ onto c.args.before (load_results abstract_sets (frame_of c.index-frames-frame.result) c.args.cell.1 c.args.size))
    (λ now. (running : List Bool) → now ≡ onto c.args.before (load_results abstract_sets ((memory_of running c.args.frames.now).frames c.args.cell.0) c.args.cell.1 c.args.size))
    (λ now is running.
    is ∙ ap (λ (f : FrameMem abstract_sets). onto c.args.before (load_results abstract_sets f c.args.cell.1 c.args.size))
    (own_frame c.args.frames.now c.args.size c.args.cell c.index-frames-frame.result c.requires.fits c.index-frames-frame.is running))
    c.load_onto.ensures.onto
