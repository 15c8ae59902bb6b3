-- With the lines that are left, the marks are those of all lines.
use Rattle.std.proofs.Common.{◌≡◌, Some, length}
use Rattle.report_checks.specs.Marks.{marked_by}
use Rattle.report_checks.proofs.shaping.mark_lines.Given as goal

abbrev pub invariant-loop-fact : goal.invariant-loop-fact
invariant-loop-fact l = (length l.marks ≡ length l.initial.marks) × (marked_by (Some l.marks) l.rest ≡ marked_by (Some l.initial.marks) l.facts)

abbrev pub decreases-loop-fact : goal.decreases-loop-fact
decreases-loop-fact l = length l.rest
