-- What is left to show of `tables_are_refused_in_one_line`.
use Rattle.std.proofs.Common.{refl}
use Rattle.answer_texts.proofs.worked.tables_are_refused_in_one_line.Goals as goal

pub returns-clause-toml : goal.returns-clause-toml
unfolding Rattle.std.specs.Fmt.digits
returns-clause-toml c = refl

pub returns-clause-top : goal.returns-clause-top
unfolding Rattle.std.specs.Fmt.digits
returns-clause-top c = refl

pub returns-clause-key : goal.returns-clause-key
unfolding Rattle.std.specs.Fmt.digits
returns-clause-key c = refl

pub returns-clause-range : goal.returns-clause-range
unfolding Rattle.std.specs.Fmt.digits
returns-clause-range c = refl

pub returns-clause-cell : goal.returns-clause-cell
unfolding Rattle.std.specs.Fmt.digits
returns-clause-cell c = refl

pub returns-clause-limit : goal.returns-clause-limit
unfolding Rattle.std.specs.Fmt.digits
returns-clause-limit c = refl

pub returns-clause-syntax : goal.returns-clause-syntax
unfolding Rattle.std.specs.Fmt.digits
returns-clause-syntax c = refl

pub returns-clause-number : goal.returns-clause-number
unfolding Rattle.std.specs.Fmt.digits
returns-clause-number c = refl
