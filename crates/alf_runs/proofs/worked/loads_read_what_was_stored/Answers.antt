-- What is left to show of `loads_read_what_was_stored`.
use Rattle.std.proofs.Common.{refl}
use Rattle.alf_runs.proofs.worked.loads_read_what_was_stored.Goals as goal

pub returns-clause-unset : goal.returns-clause-unset
returns-clause-unset c = record { over = refl; passes = refl; costs = refl }

pub returns-clause-partly : goal.returns-clause-partly
returns-clause-partly c = record { over = refl; passes = refl; costs = refl }

pub returns-clause-part : goal.returns-clause-part
returns-clause-part c = record { over = refl; passes = refl; costs = refl }

pub returns-clause-lowest : goal.returns-clause-lowest
returns-clause-lowest c = record { over = refl; passes = refl; costs = refl }

pub returns-clause-order : goal.returns-clause-order
returns-clause-order c = record { over = refl; passes = refl; costs = refl }
