use Rattle.alf_program.specs.Tree.{program_of}
use Rattle.alf_text.specs.Canonical.{body_marks}
use Rattle.alf_text.proofs.TextPrinting.{braced_text}
use Rattle.alf_text.proofs.printer.print.Goals as goal

pub returns : goal.returns
returns c = rw (c.in_ok-push-2.ensures.items, c.in_ok-put_body.ensures, c.in_ok-push.ensures.items, c.new-out.ensures.items) (braced_text (body_marks (program_of c.args.program.now)))
