use Rattle.std.proofs.Common.{◌≡◌, drop}
use Rattle.alf_faults.specs.Sizes.{targets_have}
use Rattle.alf_faults.proofs.size_rules.targets_have.Given as goal

abbrev pub invariant-loop-target : goal.invariant-loop-target
invariant-loop-target l = targets_have l.size (drop l.target-index l.targets) ≡ targets_have l.size l.targets
