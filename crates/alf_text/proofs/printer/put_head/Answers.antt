use Rattle.std.proofs.Common.{refl}
use Rattle.alf_text.proofs.printer.put_head.Goals as goal

pub returns : goal.returns
returns c = rw (c.in_ok-put_word.ensures, c.in_ok-put_unit.ensures, c.in_ok-close.ensures, c.in_ok-open.ensures) refl
