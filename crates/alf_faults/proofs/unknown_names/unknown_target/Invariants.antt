use Rattle.std.proofs.Common.{◌≡◌, map, drop}
use Rattle.alf_program.specs.Tree.{item_of}
use Rattle.alf_faults.specs.Fault.{earliest}
use Rattle.alf_faults.specs.Unknowns.{unknown_targets}
use Rattle.alf_faults.proofs.unknown_names.unknown_target.Given as goal

abbrev pub invariant-loop-target : goal.invariant-loop-target
invariant-loop-target l =
    earliest (unknown_targets (map item_of l.labels) (drop l.target-index l.targets)) ≡ earliest (unknown_targets (map item_of l.labels) l.targets)
