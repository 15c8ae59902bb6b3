use Rattle.std.proofs.Common.{◌≡◌, ◌++◌, ◌+◌, ℕ, List, length}
use Rattle.flow_base.specs.Sinks.{Appended}
use Rattle.flow_base.proofs.streams.write_whole.Given as goal

-- what was taken so far is what stands before the rest, and what may fail now could fail at first
abbrev pub invariant-loop-rest : goal.invariant-loop-rest
invariant-loop-rest g l =
    ((done : List ℕ) × (l.bytes ≡ done ++ l.rest) × Appended (g.W.Output.taken l.initial.output) (g.W.Output.taken l.output) done)
    × (g.W.Output.fails l.output → g.W.Output.fails l.initial.output)

abbrev pub decreases-loop-rest : goal.decreases-loop-rest
decreases-loop-rest g l = length l.rest + g.W.Output.patience l.output
