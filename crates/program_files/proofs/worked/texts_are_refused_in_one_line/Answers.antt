-- What is left to show of `texts_are_refused_in_one_line`.
use Rattle.std.proofs.Common.{refl}
use Rattle.program_files.proofs.worked.texts_are_refused_in_one_line.Goals as goal

pub returns-clause-syntax : goal.returns-clause-syntax
unfolding Rattle.std.specs.Fmt.digits
returns-clause-syntax c = refl

pub returns-clause-number : goal.returns-clause-number
unfolding Rattle.std.specs.Fmt.digits
returns-clause-number c = refl

pub returns-clause-profile : goal.returns-clause-profile
unfolding Rattle.std.specs.Fmt.digits
returns-clause-profile c = refl

pub returns-clause-limit : goal.returns-clause-limit
unfolding Rattle.std.specs.Fmt.digits
returns-clause-limit c = refl

pub returns-clause-syntax_of_c : goal.returns-clause-syntax_of_c
unfolding Rattle.std.specs.Fmt.digits
returns-clause-syntax_of_c c = refl

pub returns-clause-number_of_c : goal.returns-clause-number_of_c
unfolding Rattle.std.specs.Fmt.digits
returns-clause-number_of_c c = refl

pub returns-clause-profile_of_c : goal.returns-clause-profile_of_c
unfolding Rattle.std.specs.Fmt.digits
returns-clause-profile_of_c c = refl

pub returns-clause-limit_of_c : goal.returns-clause-limit_of_c
unfolding Rattle.std.specs.Fmt.digits
returns-clause-limit_of_c c = refl
