-- What was written is the canonical text, which is cut again.
use Rattle.std.proofs.Common.{◌≡◌}
use Rattle.c_tokens.specs.Printed.{printed_text}
use Rattle.c_unit.specs.Units.{unit_of}
use Rattle.c_unit.specs.Texts.{texts_of}
use Rattle.c_unit.proofs.Texts.{print_is}
use Rattle.c_unit.proofs.printing.print.Goals as goal

pub returns-clause-text : goal.returns-clause-text
returns-clause-text c =
    rw (c.in_ok-push.ensures.items, c.in_ok-out.ensures, c.as_slice.ensures.value, c.as_slice-2.ensures.value) (print_is c.args.unit.now.text.items c.args.unit.now.tokens.items)

pub returns-clause-again : goal.returns-clause-again
returns-clause-again c = λ h.
    let e : c.push.new.self.items ≡ printed_text (texts_of (unit_of c.args.unit.now)) = returns-clause-text c in
    rw e (c.printed_texts_are_cut.ensures (texts_of (unit_of c.args.unit.now)) h)
