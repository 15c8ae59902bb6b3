-- What was put are the lines of the first members.
use Rattle.std.proofs.Common.{◌≡◌, take}
use Rattle.std.specs.List.{flat_map}
use Rattle.fact_words.specs.Canonical.{fact_marks}
use Rattle.fact_words.specs.Printing.{all_put}
use Rattle.fact_words.proofs.printer.put_facts.Given as goal

abbrev pub invariant-loop-fact : goal.invariant-loop-fact
invariant-loop-fact l = l.out.items ≡ all_put l.initial.out.items (flat_map fact_marks (take l.fact-index l.facts))
