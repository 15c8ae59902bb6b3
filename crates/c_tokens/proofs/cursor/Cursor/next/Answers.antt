-- Where no bytes are left there are no tokens.
use Rattle.std.proofs.Common.{length, sym, ◌∙◌}
use Rattle.std.proofs.lemmas.Bool.{eqb-true}
use Rattle.c_tokens.proofs.Pieces.{no_tokens}
use Rattle.c_tokens.proofs.cursor.Cursor.next.Goals as goal

pub returns-clause-end : goal.returns-clause-end
returns-clause-end c = λ _.
    let none = eqb-true (length c.loop-self.self.rest.now) 0 (sym c.is_empty.ensures ∙ c.loop-self-test.false) in
    sym c.loop-self.invariant ∙ no_tokens c.loop-self.self.rest.now none
