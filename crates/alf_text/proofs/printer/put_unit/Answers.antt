use Rattle.std.proofs.Common.{refl}
use Rattle.alf_text.proofs.printer.put_unit.Goals as goal

pub returns : goal.returns
returns c = rw (c.in_ok-close.ensures, c.in_ok-put_number.ensures, c.in_ok-open.ensures) refl
