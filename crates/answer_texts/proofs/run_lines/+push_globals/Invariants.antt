use Rattle.std.proofs.Common.{length}
use Rattle.answer_texts.proofs.run_lines.+push_globals.Given as goal

abbrev pub decreases-push_globals : goal.decreases-push_globals
decreases-push_globals l = length l.frames.now
