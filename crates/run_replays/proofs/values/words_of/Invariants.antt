use Rattle.std.proofs.Common.{◌≡◌, take}
use Rattle.alf_runs.specs.Starts.{words_of}
use Rattle.run_replays.proofs.values.words_of.Given as goal

abbrev pub invariant-loop-k : goal.invariant-loop-k
invariant-loop-k l = l.words.items ≡ words_of (take l.k l.rows) (take l.k l.values)
