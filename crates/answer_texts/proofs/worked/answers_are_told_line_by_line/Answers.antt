-- What is left to show of `answers_are_told_line_by_line`.
use Rattle.std.proofs.Common.{refl}
use Rattle.answer_texts.proofs.worked.answers_are_told_line_by_line.Goals as goal

pub returns-clause-cache : goal.returns-clause-cache
unfolding Rattle.std.specs.Fmt.digits
returns-clause-cache c = refl

pub returns-clause-worst : goal.returns-clause-worst
unfolding Rattle.std.specs.Fmt.digits
returns-clause-worst c = refl

pub returns-clause-stopped : goal.returns-clause-stopped
returns-clause-stopped c = refl
