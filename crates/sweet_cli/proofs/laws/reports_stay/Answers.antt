-- A report is printed with each number of turns that is not below the steps of its exploration.
use Rattle.sweet_cli.proofs.Staying.{stays}
use Rattle.sweet_cli.proofs.laws.reports_stay.Goals as goal

pub returns : goal.returns
returns c =
    let one = c.a_program_has_one_bounded_analysis.ensures in
    stays one.one one.printed one.printed_longer
