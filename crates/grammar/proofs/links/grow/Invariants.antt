-- The one loop of all chains: what was made so far, and that each part takes some of the text.
use Rattle.grammar.specs.Form.{left}
use Rattle.grammar.specs.Turns.{ChainSoFar}
use Rattle.grammar.proofs.links.grow.Given as goal

abbrev pub invariant-loop-value : goal.invariant-loop-value
invariant-loop-value g l =
    ChainSoFar (g.L.Link.goes_on l.fn.link) (g.L.Link.rule l.fn.link) (g.L.Link.view l.fn.value) (g.L.Link.view l.value) (g.L.Link.reading.position l.reader) (g.L.Link.reading.position l.fn.reader)

abbrev pub decreases-loop-value : goal.decreases-loop-value
decreases-loop-value g l = left (g.L.Link.reading.position l.reader)
