use Rattle.std.proofs.Common.{◌+◌, ◌-◌, length}
use Rattle.std.specs.Io.KnownBytes.{Consumes}
use Rattle.flow_base.proofs.streams.read_whole.Given as goal

-- what was read so far is gone from what was left, and what may fail now could fail at first
abbrev pub invariant-loop-piece : goal.invariant-loop-piece
invariant-loop-piece g l =
    Consumes (g.S.Source.left l.initial.source) (g.S.Source.left l.source) l.bytes.items
    × (g.S.Source.fails l.source → g.S.Source.fails l.initial.source)

abbrev pub decreases-loop-piece : goal.decreases-loop-piece
decreases-loop-piece g l = (l.limit + 1 - length l.bytes.items) + g.S.Source.patience l.source
