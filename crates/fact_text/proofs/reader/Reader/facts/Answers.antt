-- That a line takes some of the text is the type of its rule.
use Rattle.std.proofs.Common.{sym, ◌∙◌, []}
use Rattle.grammar.specs.TurnLaws.{chain_goes_on, chain_fails}
use Rattle.fact_text.specs.Grammar.{fact_begins, next_fact}
use Rattle.fact_text.specs.Reading.{position, fault_of}
use Rattle.fact_text.proofs.reader.Reader.facts.Goals as goal

pub loop-self-smaller : goal.loop-self-smaller
loop-self-smaller c = ((next_fact c.args.form) (c.loop-self.facts.items)).exact.shrinks (position c.loop-self.self) (c.in-Ok.next.items, position c.next_fact.new.self) c.in-Ok.ensures

pub loop-self-preserved : goal.loop-self-preserved
loop-self-preserved c =
    chain_goes_on fact_begins (next_fact c.args.form) [] (c.loop-self.facts.items) (position c.loop-self.self) (position c.args.self.now) (c.in-Ok.next.items) (position c.next_fact.new.self)
    (sym c.at_fact.ensures ∙ c.loop-self-test.true) c.in-Ok.ensures c.loop-self.invariant

pub returns-in-Err : goal.returns-in-Err
returns-in-Err c =
    chain_fails fact_begins (next_fact c.args.form) [] (c.loop-self.facts.items) (position c.loop-self.self) (position c.args.self.now) (fault_of c.in-Err.error)
    (sym c.at_fact.ensures ∙ c.loop-self-test.true) c.in-Err.ensures c.loop-self.invariant
