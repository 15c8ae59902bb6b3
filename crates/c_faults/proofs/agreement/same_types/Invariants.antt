-- Those that are left are the same where all are.
use Rattle.std.proofs.Common.{◌≡◌, length}
use Rattle.c_rules.specs.Units.{same_types}
use Rattle.c_faults.proofs.agreement.same_types.Given as goal

abbrev pub invariant-loop-first : goal.invariant-loop-first
invariant-loop-first l = same_types l.before l.types ≡ same_types l.initial.before l.initial.types

abbrev pub decreases-loop-first : goal.decreases-loop-first
decreases-loop-first l = length l.before
