use Rattle.std.proofs.Common.{◌≡◌, map, take}
use Rattle.std.specs.List.{flat_map}
use Rattle.alf_program.specs.Tree.{item_of}
use Rattle.alf_check.specs.CheckedPrograms.{act_of}
use Rattle.alf_check.specs.Numbered.{statements_by}
use Rattle.alf_check.specs.Names.{numbers_of}
use Rattle.alf_check.proofs.statements.acts.Given as goal

abbrev pub invariant-loop-item : goal.invariant-loop-item
invariant-loop-item l = map act_of l.acts.items ≡ flat_map (statements_by (numbers_of l.names).frame) (map item_of (take l.item-index l.items))
