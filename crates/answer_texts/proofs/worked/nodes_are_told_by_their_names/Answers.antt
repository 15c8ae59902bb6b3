-- What is left to show of `nodes_are_told_by_their_names`.
use Rattle.std.proofs.Common.{refl}
use Rattle.answer_texts.proofs.worked.nodes_are_told_by_their_names.Goals as goal

pub returns-clause-irreducible : goal.returns-clause-irreducible
unfolding Rattle.std.specs.Fmt.digits
returns-clause-irreducible c = refl

pub returns-clause-left : goal.returns-clause-left
unfolding Rattle.std.specs.Fmt.digits
returns-clause-left c = refl
