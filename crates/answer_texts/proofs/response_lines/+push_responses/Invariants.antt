use Rattle.std.proofs.Common.{length}
use Rattle.answer_texts.proofs.response_lines.+push_responses.Given as goal

abbrev pub decreases-push_responses : goal.decreases-push_responses
decreases-push_responses l = length l.tasks.now
