use Rattle.std.proofs.Common.{◌≡◌, ◌++◌}
use Rattle.answer_texts.specs.MadeProgram.{first_line, loops_to}
use Rattle.answer_texts.proofs.made_lines.made_text.Given as goal

abbrev pub invariant-loop-k : goal.invariant-loop-k
invariant-loop-k l = l.text.items ≡ first_line ++ loops_to l.k
