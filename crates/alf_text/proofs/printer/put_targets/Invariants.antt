use Rattle.std.proofs.Common.{◌≡◌, take}
use Rattle.std.specs.List.{flat_map}
use Rattle.alf_text.specs.Canonical.{target_marks}
use Rattle.alf_text.specs.Printing.{all_put}
use Rattle.alf_text.proofs.printer.put_targets.Given as goal

abbrev pub invariant-loop-num : goal.invariant-loop-num
invariant-loop-num l = l.out.items ≡ all_put l.initial.out.items (flat_map target_marks (take l.num-index l.targets))
