use Rattle.std.proofs.Common.{◌≡◌}
use Rattle.abstract_step.specs.Turns.{numbered_arm}
use Rattle.abstract_step.proofs.ArmLaws.{first_mapped}
use Rattle.abstract_step.proofs.switching.number.Given as goal

abbrev pub invariant-loop-at : goal.invariant-loop-at
invariant-loop-at l = l.arms ≡ first_mapped (numbered_arm l.here) l.at l.fn.arms
