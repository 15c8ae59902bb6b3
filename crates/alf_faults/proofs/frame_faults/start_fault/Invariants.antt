use Rattle.std.proofs.Common.{◌≡◌, map, drop}
use Rattle.std.specs.List.{flat_map}
use Rattle.alf_program.specs.Tree.{allocation_of, initial_of}
use Rattle.alf_faults.specs.Fault.{earliest}
use Rattle.alf_faults.specs.Faults.{start_faults}
use Rattle.alf_faults.proofs.frame_faults.start_fault.Given as goal

abbrev pub invariant-loop-init : goal.invariant-loop-init
invariant-loop-init l =
    earliest (flat_map (start_faults (map allocation_of l.frames)) (map initial_of (drop l.init-index l.inits)))
    ≡ earliest (flat_map (start_faults (map allocation_of l.frames)) (map initial_of l.inits))
