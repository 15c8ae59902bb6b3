use Rattle.std.proofs.Common.{length}
use Rattle.answer_texts.proofs.box_lines.+push_ranges.Given as goal

abbrev pub decreases-push_ranges : goal.decreases-push_ranges
decreases-push_ranges l = length l.area.now
