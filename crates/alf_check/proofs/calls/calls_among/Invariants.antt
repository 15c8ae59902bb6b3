use Rattle.std.proofs.Common.{◌≡◌, map, take}
use Rattle.alf_program.specs.Tree.{function_of}
use Rattle.graph_walks.specs.Calls.{calls_of}
use Rattle.alf_check.specs.Checking.{calls_among}
use Rattle.alf_check.proofs.calls.calls_among.Given as goal

abbrev pub invariant-loop-func : goal.invariant-loop-func
invariant-loop-func l = calls_of l.calls.items ≡ calls_among (map function_of l.funcs) (map function_of (take l.func-index l.funcs))
