-- What `analyse --cert` printed is accepted.
use Rattle.sweet_cli.proofs.Accepting.{own_accepted}
use Rattle.sweet_cli.proofs.laws.own_reports_are_accepted.Goals as goal

pub returns : goal.returns
returns c = own_accepted c.a_report_has_one_check.ensures c.closed_explorations_have_totals.ensures c.a_file_means_its_report.ensures c.writable_reports_are_spelled.ensures.own
