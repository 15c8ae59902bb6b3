use Rattle.std.proofs.Common.{◌≡◌, ◌++◌, take}
use Rattle.program_files.specs.CheckLines.{names_text}
use Rattle.program_files.proofs.lines.check_lines.names_line.Given as goal

abbrev pub invariant-loop-name : goal.invariant-loop-name
invariant-loop-name l = l.line.items ≡ l.words ++ names_text (take l.name-index l.names)
