-- What is left to show of `calls_pass_entries_and_blocks`.
use Rattle.std.proofs.Common.{refl}
use Rattle.alf_runs.proofs.worked.calls_pass_entries_and_blocks.Goals as goal

pub returns-clause-twice : goal.returns-clause-twice
returns-clause-twice c = record { over = refl; passes = refl; costs = refl }

pub returns-clause-targets : goal.returns-clause-targets
returns-clause-targets c = record { first = record { over = refl; passes = refl; costs = refl }; second = record { over = refl; passes = refl; costs = refl }; none = record { over = refl; passes = refl; costs = refl } }

pub returns-clause-inputs : goal.returns-clause-inputs
returns-clause-inputs c = record { over = refl; passes = refl; costs = refl }

pub returns-clause-left : goal.returns-clause-left
returns-clause-left c = record { over = refl; passes = refl; costs = refl }

pub returns-clause-over : goal.returns-clause-over
returns-clause-over c = record { over = refl; passes = refl; costs = refl }
