-- What is left to show of `known_in`: facts of the proof files, applied.
use Rattle.std.proofs.Common.{◌∙◌, ap, sym}
use Rattle.std.proofs.lemmas.Option.{IfSome_then}
use Rattle.memory_rules.specs.AbstractSets.{abstract_sets}
use Rattle.memory_rules.specs.Frames.{FrameMem, load_results}
use Rattle.abstract_memory.proofs.Changing.{own_sized, own_frame}
use Rattle.abstract_memory.proofs.loads.known_in.Goals as goal

pub known_value-requires-clause-frame_sized : goal.known_value-requires-clause-frame_sized
known_value-requires-clause-frame_sized c = own_sized c.args.frames.now c.args.size c.args.cell c.index-frames-frame.result c.requires.fits c.index-frames-frame.is c.requires.sized

pub returns-clause-value : goal.returns-clause-value
returns-clause-value c = IfSome_then c.known_value.result c.known_value.ensures.value
    (λ value is running.
    ap (λ (f : FrameMem abstract_sets). load_results abstract_sets f c.args.cell.1 c.args.size)
    (sym (own_frame c.args.frames.now c.args.size c.args.cell c.index-frames-frame.result c.requires.fits c.index-frames-frame.is running)) ∙ is)
