use Rattle.std.proofs.Common.{◌≡◌, take}
use Rattle.std.specs.List.{flat_map}
use Rattle.alf_text.specs.Canonical.{ref_marks}
use Rattle.alf_text.specs.Printing.{all_put}
use Rattle.alf_text.proofs.printer.put_refs.Given as goal

abbrev pub invariant-loop-name : goal.invariant-loop-name
invariant-loop-name l = l.out.items ≡ all_put l.initial.out.items (flat_map (ref_marks l.word) (take l.name-index l.names))
