use Rattle.std.proofs.Common.{◌≡◌, map, take}
use Rattle.alf_program.specs.Tree.{function_of}
use Rattle.alf_check.specs.Checking.{name_at}
use Rattle.alf_check.proofs.checking.names_along.Given as goal

abbrev pub invariant-loop-number : goal.invariant-loop-number
invariant-loop-number l = l.names.items ≡ map (name_at (map function_of l.funcs)) (take l.number-index l.path)
