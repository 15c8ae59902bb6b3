use Rattle.std.proofs.Common.{◌≡◌, map, drop}
use Rattle.std.specs.List.{flat_map}
use Rattle.alf_program.specs.Tree.{allocation_of}
use Rattle.alf_faults.specs.Fault.{earliest}
use Rattle.alf_faults.specs.Faults.{export_faults}
use Rattle.alf_faults.proofs.frame_faults.export_fault.Given as goal

abbrev pub invariant-loop-name : goal.invariant-loop-name
invariant-loop-name l =
    earliest (flat_map (export_faults (map allocation_of l.frames)) (drop l.name-index l.exports))
    ≡ earliest (flat_map (export_faults (map allocation_of l.frames)) l.exports)
