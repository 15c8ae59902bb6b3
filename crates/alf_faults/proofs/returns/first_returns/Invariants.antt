use Rattle.std.proofs.Common.{◌≡◌, take}
use Rattle.alf_faults.specs.Returns.{returns_of}
use Rattle.alf_faults.proofs.returns.first_returns.Given as goal

abbrev pub invariant-loop-func : goal.invariant-loop-func
invariant-loop-func l = l.returns.items ≡ returns_of (take l.func-index l.funcs)
