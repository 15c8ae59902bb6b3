-- With the lines that are left, the faults are those of all lines.
use Rattle.std.proofs.Common.{◌≡◌, length}
use Rattle.report_checks.specs.Marks.{told_by}
use Rattle.report_checks.proofs.alarms.tell_all.Given as goal

abbrev pub invariant-loop-fact : goal.invariant-loop-fact
invariant-loop-fact l = told_by l.sets l.rest ≡ told_by l.initial.sets l.facts

abbrev pub decreases-loop-fact : goal.decreases-loop-fact
decreases-loop-fact l = length l.rest
