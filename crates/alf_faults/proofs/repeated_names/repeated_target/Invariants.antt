use Rattle.std.proofs.Common.{◌≡◌, [], drop}
use Rattle.alf_faults.specs.Fault.{earliest}
use Rattle.alf_faults.specs.Duplicates.{target_duplicates}
use Rattle.alf_faults.proofs.repeated_names.repeated_target.Given as goal

abbrev pub invariant-loop-target : goal.invariant-loop-target
invariant-loop-target l =
    earliest (target_duplicates l.seen.keys (drop l.target-index l.targets)) ≡ earliest (target_duplicates [] l.targets)
