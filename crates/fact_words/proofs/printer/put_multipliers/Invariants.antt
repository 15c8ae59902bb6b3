-- What was put are the lines of the first members.
use Rattle.std.proofs.Common.{◌≡◌, take}
use Rattle.std.specs.List.{flat_map}
use Rattle.fact_words.specs.Canonical.{multiplier_marks}
use Rattle.fact_words.specs.Printing.{all_put}
use Rattle.fact_words.proofs.printer.put_multipliers.Given as goal

abbrev pub invariant-loop-multiplier : goal.invariant-loop-multiplier
invariant-loop-multiplier l = l.out.items ≡ all_put l.initial.out.items (flat_map multiplier_marks (take l.multiplier-index l.multipliers))
