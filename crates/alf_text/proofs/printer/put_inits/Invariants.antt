use Rattle.std.proofs.Common.{◌≡◌, map, take}
use Rattle.std.specs.List.{flat_map}
use Rattle.alf_program.specs.Tree.{initial_of}
use Rattle.alf_text.specs.Canonical.{start_marks}
use Rattle.alf_text.specs.Printing.{all_put}
use Rattle.alf_text.proofs.printer.put_inits.Given as goal

abbrev pub invariant-loop-init : goal.invariant-loop-init
invariant-loop-init l = l.out.items ≡ all_put l.initial.out.items (flat_map start_marks (map initial_of (take l.init-index l.inits)))
