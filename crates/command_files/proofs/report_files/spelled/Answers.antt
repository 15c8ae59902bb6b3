-- The report that was read, or the line of its first departure, is the only meaning.
use Rattle.std.proofs.Common.{refl}
use Rattle.flow_facts.specs.Reports.{reported}
use Rattle.fact_text.specs.Language.{departure_of}
use Rattle.command_files.proofs.JudgedReportFiles.{spelled_only, departed_only}
use Rattle.command_files.proofs.report_files.spelled.Goals as goal

pub returns-in-Ok-clause-means : goal.returns-in-Ok-clause-means
returns-in-Ok-clause-means c = spelled_only c.args.bytes.now (c.one_meaning.ensures c.args.bytes.now) (reported c.in-Ok.report) c.in-Ok.ensures.spelled

pub returns-in-Ok-report_fault_line-clause-means : goal.returns-in-Ok-report_fault_line-clause-means
returns-in-Ok-report_fault_line-clause-means c = (
  refl,
  departed_only c.args.bytes.now (c.one_meaning.ensures c.args.bytes.now) (departure_of c.in-Err.fault) c.in-Ok-report_fault_line.line.items
      c.in-Ok-report_fault_line.ensures c.in-Err.ensures.departs,
)
