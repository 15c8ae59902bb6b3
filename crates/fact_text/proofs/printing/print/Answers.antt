-- The text that was printed spells the report.
use Rattle.flow_facts.specs.Reports.{reported}
use Rattle.fact_text.proofs.printing.print.Goals as goal

pub returns-clause-spelled : goal.returns-clause-spelled
returns-clause-spelled c = λ w. rw c.in_ok-text.ensures (c.writable_reports_are_spelled.ensures.own (reported c.args.report.now) w)
