use Rattle.std.proofs.Common.{◌≡◌, map, take}
use Rattle.std.specs.List.{flat_map}
use Rattle.alf_program.specs.Tree.{allocation_of}
use Rattle.alf_text.specs.Canonical.{frame_marks}
use Rattle.alf_text.specs.Printing.{all_put}
use Rattle.alf_text.proofs.printer.put_allocs.Given as goal

abbrev pub invariant-loop-alloc : goal.invariant-loop-alloc
invariant-loop-alloc l = l.out.items ≡ all_put l.initial.out.items (flat_map frame_marks (map allocation_of (take l.alloc-index l.allocs)))
