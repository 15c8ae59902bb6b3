-- The three words are put one after the other.
use Rattle.std.proofs.Common.{refl}
use Rattle.fact_words.proofs.lines.put_path_bound.Goals as goal

pub returns : goal.returns
returns c = rw (c.in_ok-put_word.ensures, c.bound_word.ensures, c.in_ok-put_number.ensures, c.in_ok-put_line.ensures) refl
