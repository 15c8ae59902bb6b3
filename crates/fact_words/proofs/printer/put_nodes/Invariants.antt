-- The lines that were put and those of the rest are those of all.
use Rattle.std.proofs.Common.{◌≡◌, ◌+◌, length, map}
use Rattle.flow_facts.specs.Reports.{node_of}
use Rattle.fact_words.specs.Canonical.{nodes_marks}
use Rattle.fact_words.specs.Printing.{all_put}
use Rattle.fact_words.proofs.printer.put_nodes.Given as goal

abbrev pub invariant-loop-node : goal.invariant-loop-node
invariant-loop-node l = (l.number + length l.rest ≡ length l.nodes) × (all_put l.out.items (nodes_marks l.number (map node_of l.rest)) ≡ all_put l.initial.out.items (nodes_marks 0 (map node_of l.nodes)))

abbrev pub decreases-loop-node : goal.decreases-loop-node
decreases-loop-node l = length l.rest
