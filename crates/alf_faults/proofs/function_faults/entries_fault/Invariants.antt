use Rattle.std.proofs.Common.{◌≡◌, map, drop}
use Rattle.alf_program.specs.Tree.{item_of, function_of, program_of}
use Rattle.alf_faults.specs.Fault.{earliest, each_from}
use Rattle.alf_faults.specs.Faults.{entry_faults}
use Rattle.alf_faults.proofs.function_faults.entries_fault.Given as goal

abbrev pub invariant-loop-at : goal.invariant-loop-at
invariant-loop-at l =
    earliest (each_from (entry_faults (program_of l.scope.program.now) l.scope.place (function_of l.scope.func.now)) l.at (map item_of (drop l.at l.scope.func.now.items.items)))
    ≡ earliest (each_from (entry_faults (program_of l.scope.program.now) l.scope.place (function_of l.scope.func.now)) 0 (map item_of l.scope.func.now.items.items))
