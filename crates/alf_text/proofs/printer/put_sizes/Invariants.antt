use Rattle.std.proofs.Common.{◌≡◌, map, take}
use Rattle.alf_text.specs.Canonical.{a_number}
use Rattle.alf_text.specs.Printing.{all_put}
use Rattle.alf_text.proofs.printer.put_sizes.Given as goal

abbrev pub invariant-loop-size : goal.invariant-loop-size
invariant-loop-size l = l.out.items ≡ all_put l.fn.out.items (map a_number (take l.size-index l.sizes))
