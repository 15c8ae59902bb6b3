-- That a part takes some of the text is the type of its rule.
use Rattle.std.proofs.Common.{sym, ◌∙◌}
use Rattle.grammar.specs.TurnLaws.{chain_goes_on, chain_fails}
use Rattle.grammar.proofs.links.grow.Goals as goal

pub loop-value-smaller : goal.loop-value-smaller
loop-value-smaller g c =
    (g.L.Link.rule c.args.link.now (g.L.Link.view c.loop-value.value)).exact.shrinks (g.L.Link.reading.position c.loop-value.reader) (g.L.Link.view c.in-Ok.next, g.L.Link.reading.position c.take.new.reader) c.in-Ok.ensures

pub loop-value-preserved : goal.loop-value-preserved
loop-value-preserved g c =
    chain_goes_on (g.L.Link.goes_on c.args.link.now) (g.L.Link.rule c.args.link.now) (g.L.Link.view c.args.value) (g.L.Link.view c.loop-value.value) (g.L.Link.reading.position c.loop-value.reader)
    (g.L.Link.reading.position c.args.reader.now) (g.L.Link.view c.in-Ok.next) (g.L.Link.reading.position c.take.new.reader) (sym c.begins.ensures ∙ c.loop-value-test.true) c.in-Ok.ensures c.loop-value.invariant

pub returns-in-Err : goal.returns-in-Err
returns-in-Err g c =
    chain_fails (g.L.Link.goes_on c.args.link.now) (g.L.Link.rule c.args.link.now) (g.L.Link.view c.args.value) (g.L.Link.view c.loop-value.value) (g.L.Link.reading.position c.loop-value.reader)
    (g.L.Link.reading.position c.args.reader.now) (g.L.Link.reading.fault_of c.in-Err.error) (sym c.begins.ensures ∙ c.loop-value-test.true) c.in-Err.ensures c.loop-value.invariant
