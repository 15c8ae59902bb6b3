-- The lines that were read, and those that are to come, are those of all.
use Rattle.std.proofs.Common.{[]}
use Rattle.grammar.specs.Form.{left}
use Rattle.grammar.specs.Turns.{ChainSoFar}
use Rattle.fact_text.specs.Grammar.{scope_begins, next_scope}
use Rattle.fact_text.specs.Reading.{position}
use Rattle.fact_text.proofs.reader.Reader.scopes.Given as goal

abbrev pub invariant-loop-self : goal.invariant-loop-self
invariant-loop-self l = ChainSoFar scope_begins next_scope [] (l.scopes.items) (position l.self) (position l.fn.self)

abbrev pub decreases-loop-self : goal.decreases-loop-self
decreases-loop-self l = left (position l.self)
