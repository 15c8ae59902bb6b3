use Rattle.std.proofs.Common.{◌≡◌, map, drop}
use Rattle.alf_program.specs.Tree.{function_of}
use Rattle.alf_faults.specs.Fault.{any_from}
use Rattle.alf_faults.specs.Returns.{function_has_breach}
use Rattle.alf_faults.proofs.returns.is_breached.Given as goal

abbrev pub invariant-loop-caller : goal.invariant-loop-caller
invariant-loop-caller l =
    any_from (function_has_breach l.name l.first l.place) l.caller (map function_of (drop l.caller l.funcs))
    ≡ any_from (function_has_breach l.name l.first l.place) 0 (map function_of l.funcs)
