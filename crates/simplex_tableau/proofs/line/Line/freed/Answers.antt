-- The terms that are made keep their order.
use Rattle.simplex_tableau.proofs.line.Line.freed.Goals as goal

pub invariant_of-result : goal.invariant_of-result
invariant_of-result c = let m = rw c.in-Some.is at c.in_ok-freed_terms.ensures in m.rises

pub returns-in-None : goal.returns-in-None
returns-in-None c = rw (c.in-None.is, c.terms.ensures.value, c.terms-2.ensures.value) at c.in_ok-freed_terms.ensures

pub returns-in-Some : goal.returns-in-Some
returns-in-Some c = rw (c.in-Some.is, c.terms.ensures.value, c.terms-2.ensures.value) at c.in_ok-freed_terms.ensures
