use Rattle.std.proofs.Common.{◌≡◌, take}
use Rattle.alf_check.specs.Numbered.{numbered_targets}
use Rattle.alf_check.specs.Names.{numbers_of}
use Rattle.alf_check.proofs.endings.numbered_targets.Given as goal

abbrev pub invariant-loop-target : goal.invariant-loop-target
invariant-loop-target l = l.numbered.items ≡ numbered_targets (numbers_of l.names).block (take l.target-index l.targets)
