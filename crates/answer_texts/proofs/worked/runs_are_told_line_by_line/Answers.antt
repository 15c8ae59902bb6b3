-- What is left to show of `runs_are_told_line_by_line`.
use Rattle.std.proofs.Common.{refl}
use Rattle.answer_texts.proofs.worked.runs_are_told_line_by_line.Goals as goal

pub returns-clause-ended : goal.returns-clause-ended
unfolding Rattle.std.specs.Fmt.digits
returns-clause-ended c = refl

pub returns-clause-nothing : goal.returns-clause-nothing
unfolding Rattle.std.specs.Fmt.digits
returns-clause-nothing c = refl

pub returns-clause-faulted : goal.returns-clause-faulted
unfolding Rattle.std.specs.Fmt.digits
returns-clause-faulted c = refl
