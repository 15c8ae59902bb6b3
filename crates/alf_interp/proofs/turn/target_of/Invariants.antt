use Rattle.std.proofs.Common.{◌≡◌, length}
use Rattle.alf_runs.specs.Steps.{target_of}
use Rattle.alf_interp.proofs.turn.target_of.Given as goal

abbrev pub invariant-loop-target : goal.invariant-loop-target
invariant-loop-target l = target_of l.targets l.others l.word ≡ target_of l.rest l.others l.word

abbrev pub decreases-loop-target : goal.decreases-loop-target
decreases-loop-target l = length l.rest
