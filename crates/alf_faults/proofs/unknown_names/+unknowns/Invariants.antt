use Rattle.std.proofs.Common.{◌≡◌, map, drop}
use Rattle.alf_program.specs.Tree.{expression_of, expressions_of, program_of, function_of}
use Rattle.alf_faults.specs.Fault.{earliest}
use Rattle.alf_faults.specs.Unknowns.{unknown_among}
use Rattle.alf_faults.proofs.unknown_names.+unknowns.Given as goal

abbrev pub invariant-unknown_among-loop-operand : goal.invariant-unknown_among-loop-operand
invariant-unknown_among-loop-operand l =
    earliest (unknown_among (program_of l.program) (function_of l.func) (expressions_of (map expression_of (drop l.operand-index l.operands))))
    ≡ earliest (unknown_among (program_of l.program) (function_of l.func) (expressions_of (map expression_of l.operands)))
