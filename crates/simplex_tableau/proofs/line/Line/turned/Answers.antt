-- The terms are turned, and keep their order.
use Rattle.ipet_rows.specs.Sums.{IsAscending}
use Rattle.simplex_tableau.specs.Shown.{IsTurned}
use Rattle.simplex_tableau.proofs.Turned.{turned_is, turned_wide}
use Rattle.simplex_tableau.proofs.line.Line.turned.Goals as goal

pub invariant_of-result : goal.invariant_of-result
invariant_of-result c =
    let kept : IsAscending c.args.self.now = rw c.terms.ensures.value at c.terms.ensures.ascending in
    let m = rw (c.in-Some.is, c.terms.ensures.value) at c.in_ok-turned_terms.ensures in
    let all : IsTurned c.args.self.now c.in-Some.terms.items = turned_is c.args.self.now c.in-Some.terms.items kept m.0 m.1 in
    all.rises

pub returns-in-None : goal.returns-in-None
returns-in-None c =
    let kept : IsAscending c.args.self.now = rw c.terms.ensures.value at c.terms.ensures.ascending in
    let m = rw (c.in-None.is, c.terms.ensures.value) at c.in_ok-turned_terms.ensures in
    turned_wide c.args.self.now kept m

pub returns-in-Some : goal.returns-in-Some
returns-in-Some c =
    let kept : IsAscending c.args.self.now = rw c.terms.ensures.value at c.terms.ensures.ascending in
    let m = rw (c.in-Some.is, c.terms.ensures.value) at c.in_ok-turned_terms.ensures in
    turned_is c.args.self.now c.in-Some.terms.items kept m.0 m.1
