use Rattle.std.proofs.Common.{length}
use Rattle.answer_texts.proofs.box_lines.+push_boxes.Given as goal

abbrev pub decreases-push_boxes : goal.decreases-push_boxes
decreases-push_boxes l = length l.boxes.now
