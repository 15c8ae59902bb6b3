use Rattle.std.proofs.Common.{◌≡◌, map, take}
use Rattle.sweet_cli.proofs.Lows.{low_word_of}
use Rattle.sweet_cli.proofs.commands.run.low_words.Given as goal

abbrev pub invariant-loop-row : goal.invariant-loop-row
invariant-loop-row l = l.words.items ≡ map low_word_of (take l.row-index l.rows)
