-- A text means one thing.
use Rattle.command_files.proofs.JudgedReportFiles.{spelled_only}
use Rattle.command_files.proofs.laws.a_file_means_its_report.Goals as goal

pub returns : goal.returns
returns c = λ bytes report spelled. spelled_only bytes (c.one_meaning.ensures bytes) report spelled
