-- The lines that were read, and those that are to come, are those of all.
use Rattle.std.proofs.Common.{[], map}
use Rattle.grammar.specs.Form.{left}
use Rattle.grammar.specs.Turns.{ChainSoFar}
use Rattle.flow_facts.specs.Reports.{node_of}
use Rattle.fact_text.specs.Grammar.{node_begins, next_node}
use Rattle.fact_text.specs.Reading.{position}
use Rattle.fact_text.proofs.reader.Reader.nodes.Given as goal

abbrev pub invariant-loop-self : goal.invariant-loop-self
invariant-loop-self l = ChainSoFar node_begins next_node [] (map node_of l.nodes.items) (position l.self) (position l.fn.self)

abbrev pub decreases-loop-self : goal.decreases-loop-self
decreases-loop-self l = left (position l.self)
