use Rattle.std.proofs.Common.{◌≡◌, map, take}
use Rattle.std.specs.List.{flat_map}
use Rattle.alf_program.specs.Tree.{function_of, item_of}
use Rattle.alf_check.specs.Checking.{called_by}
use Rattle.alf_check.proofs.calls.called_in.Given as goal

abbrev pub invariant-loop-item : goal.invariant-loop-item
invariant-loop-item l = l.called.items ≡ flat_map (called_by (map function_of l.funcs)) (map item_of (take l.item-index l.items))
