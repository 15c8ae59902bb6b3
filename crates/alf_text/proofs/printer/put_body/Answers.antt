use Rattle.std.proofs.lemmas.List.Sums.{fold-append}
use Rattle.alf_text.proofs.printer.put_body.Goals as goal

pub returns : goal.returns
returns c = rw (c.in_ok-close.ensures, c.in_ok-put_parts.ensures, c.in_ok-put_head.ensures, c.in_ok-put_word.ensures) (simp fold-append)
