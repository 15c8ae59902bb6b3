-- What the loop keeps.
use Rattle.std.specs.Prelude.{All}
use Rattle.std.proofs.Common.{◌<◌, take}
use Rattle.flow_recorders.proofs.small.are_small.Given as goal

abbrev pub invariant-loop-count : goal.invariant-loop-count
invariant-loop-count l = All (λ c. c < 256) (take l.count-index l.counts)
