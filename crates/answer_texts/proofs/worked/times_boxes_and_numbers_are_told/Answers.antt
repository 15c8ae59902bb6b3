-- What is left to show of `times_boxes_and_numbers_are_told`.
use Rattle.std.proofs.Common.{refl}
use Rattle.answer_texts.proofs.worked.times_boxes_and_numbers_are_told.Goals as goal

pub returns-clause-times : goal.returns-clause-times
unfolding Rattle.std.specs.Fmt.digits
returns-clause-times c = refl

pub returns-clause-late : goal.returns-clause-late
unfolding Rattle.std.specs.Fmt.digits
returns-clause-late c = refl

pub returns-clause-ranges : goal.returns-clause-ranges
unfolding Rattle.std.specs.Fmt.digits
returns-clause-ranges c = refl

pub returns-clause-numbers : goal.returns-clause-numbers
unfolding Rattle.std.specs.Fmt.digits
returns-clause-numbers c = refl
