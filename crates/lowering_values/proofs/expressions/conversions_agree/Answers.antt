use Rattle.lowering_values.specs.Frames.{frame_number, frames_of}
use Rattle.lowering_values.proofs.expressions.conversions_agree.Goals as goal

pub returns : goal.returns
returns c = λ unit frame m t e v gives. c.conversions_give_the_same.ensures.cuts (frame_number unit) (frames_of unit) frame m t e v gives
