use Rattle.std.proofs.Common.{◌≡◌, ◌<◌, ◌+◌, ◌++◌, map, flat_map, length, All}
use Rattle.alf_program.specs.Tree.{program_of, function_of}
use Rattle.alf_program.specs.Writable.{own_frames, frames_of}
use Rattle.alf_check.specs.CheckedPrograms.{NumberedFunction, function_in}
use Rattle.alf_check.specs.Numbered.{functions_from}
use Rattle.alf_check.proofs.numbering.all_functions.Given as goal

abbrev pub invariant-loop-func : goal.invariant-loop-func
invariant-loop-func l =
    record {
      done : map function_in l.functions.items ++ functions_from (program_of l.program) l.first (map function_of l.rest)
          ≡ functions_from (program_of l.program) (length (program_of l.program).decls) (program_of l.program).funcs;
      few : All (λ (function : NumberedFunction). length function.blocks < 4294967295) (map function_in l.functions.items);
      left : l.first + length (flat_map own_frames (map function_of l.rest)) ≡ length (frames_of (program_of l.program));
    }

abbrev pub decreases-loop-func : goal.decreases-loop-func
decreases-loop-func l = length l.rest
