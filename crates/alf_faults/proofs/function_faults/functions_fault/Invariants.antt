use Rattle.std.proofs.Common.{◌≡◌, map, drop}
use Rattle.alf_program.specs.Tree.{function_of, program_of}
use Rattle.alf_faults.specs.Fault.{earliest, each_from}
use Rattle.alf_faults.specs.Faults.{function_faults}
use Rattle.alf_faults.proofs.function_faults.functions_fault.Given as goal

abbrev pub invariant-loop-place : goal.invariant-loop-place
invariant-loop-place l =
    earliest (each_from (function_faults (program_of l.program)) l.place (map function_of (drop l.place l.program.funcs.items)))
    ≡ earliest (each_from (function_faults (program_of l.program)) 0 (map function_of l.program.funcs.items))
