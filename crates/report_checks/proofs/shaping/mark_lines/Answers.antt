-- A line that does not mark.
use Rattle.std.proofs.Common.{Bool, ap, ◌∙◌}
use Rattle.report_checks.specs.Marks.{marks_if}
use Rattle.report_checks.proofs.MarkLaws.{marks_stop}
use Rattle.report_checks.proofs.shaping.mark_lines.Goals as goal

pub returns-then-not-mark_line-clause-marks : goal.returns-then-not-mark_line-clause-marks
returns-then-not-mark_line-clause-marks c =
    marks_stop c.args.marks.now c.loop-fact.marks c.in-Some.fact.now c.loop-fact.rest.now c.in-Some.others.now c.args.facts.now c.in-Some.ensures.cases.0
    (c.mark_line.ensures ∙ ap (λ (v : Bool). marks_if v c.mark_line.new.marks) c.if-not-mark_line.true) c.loop-fact.invariant.1
