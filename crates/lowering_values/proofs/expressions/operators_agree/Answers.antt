use Rattle.lowering_values.specs.Frames.{frame_number, frames_of}
use Rattle.lowering_values.proofs.expressions.operators_agree.Goals as goal

pub returns : goal.returns
returns c = λ unit frame m op a b left right l r stand plain gives_left gives_right fits.
    c.operators_give_the_same.ensures.binary (frame_number unit) (frames_of unit) frame m op a b left right l r stand.apart plain gives_left gives_right fits
