-- The parts put one after the other are the text.
use Rattle.flow_facts.specs.Reports.{reported}
use Rattle.fact_words.proofs.Printing.{report_put}
use Rattle.fact_words.proofs.printer.print.Goals as goal

pub returns : goal.returns
returns c =
    rw (c.in_ok-put_tail.ensures, c.in_ok-put_lists.ensures, c.in_ok-put_number.ensures, c.from.ensures, c.in_ok-extend_from_slice.ensures.items, c.new-out.ensures.items)
    (report_put (reported c.args.report.now))
