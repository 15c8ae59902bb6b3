use Rattle.std.proofs.Common.{◌≡◌, drop}
use Rattle.std.specs.List.{flat_map}
use Rattle.alf_program.specs.Tree.{program_of}
use Rattle.alf_faults.specs.Fault.{earliest}
use Rattle.alf_faults.specs.Unknowns.{unknown_function}
use Rattle.alf_faults.proofs.unknown_names.unknown_export.Given as goal

abbrev pub invariant-loop-name : goal.invariant-loop-name
invariant-loop-name l =
    earliest (flat_map (unknown_function (program_of l.program)) (drop l.name-index l.program.labels.items))
    ≡ earliest (flat_map (unknown_function (program_of l.program)) l.program.labels.items)
