use Rattle.std.proofs.Common.{◌≡◌, map, take}
use Rattle.std.specs.List.{flat_map}
use Rattle.alf_program.specs.Tree.{item_of}
use Rattle.alf_text.specs.Canonical.{entry_marks}
use Rattle.alf_text.specs.Printing.{all_put}
use Rattle.alf_text.proofs.printer.put_items.Given as goal

abbrev pub invariant-loop-item : goal.invariant-loop-item
invariant-loop-item l = l.out.items ≡ all_put l.initial.out.items (flat_map entry_marks (map item_of (take l.item-index l.items)))
