-- What is left to show of `checks_refuse_in_one_line`.
use Rattle.std.proofs.Common.{refl}
use Rattle.program_files.proofs.worked.checks_refuse_in_one_line.Goals as goal

pub returns-clause-unknown : goal.returns-clause-unknown
unfolding Rattle.std.specs.Fmt.digits
returns-clause-unknown c = refl

pub returns-clause-duplicate : goal.returns-clause-duplicate
unfolding Rattle.std.specs.Fmt.digits
returns-clause-duplicate c = refl

pub returns-clause-size : goal.returns-clause-size
unfolding Rattle.std.specs.Fmt.digits
returns-clause-size c = refl

pub returns-clause-size_of_frame : goal.returns-clause-size_of_frame
unfolding Rattle.std.specs.Fmt.digits
returns-clause-size_of_frame c = refl

pub returns-clause-root : goal.returns-clause-root
unfolding Rattle.std.specs.Fmt.digits
returns-clause-root c = refl

pub returns-clause-circle : goal.returns-clause-circle
returns-clause-circle c = refl

pub returns-clause-name_of_c : goal.returns-clause-name_of_c
returns-clause-name_of_c c = refl

pub returns-clause-duplicate_of_c : goal.returns-clause-duplicate_of_c
returns-clause-duplicate_of_c c = refl

pub returns-clause-type_of_c : goal.returns-clause-type_of_c
unfolding Rattle.std.specs.Fmt.digits
returns-clause-type_of_c c = refl

pub returns-clause-circle_of_c : goal.returns-clause-circle_of_c
returns-clause-circle_of_c c = refl

pub returns-clause-root_of_c : goal.returns-clause-root_of_c
returns-clause-root_of_c c = refl
