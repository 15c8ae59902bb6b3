-- A function that no function it reaches calls: it is on no cycle, and its rank is the count of the others.
use Rattle.std.proofs.Common.{Bool, List, [], ◌∷◌, ap, subst, sym, arith}
use Rattle.graph_walks.specs.Walks.{stays}
use Rattle.graph_walks.specs.MarkedNodes.{IsMarked, marked_count}
use Rattle.graph_walks.proofs.MarkedNodeLemmas.{marked_some}
use Rattle.graph_walks.proofs.finding.finding_of.Goals as goal

-- a function is among what it reaches, so something is
pub overflow_sub-result : goal.overflow_sub-result
overflow_sub-result c =
    let some = marked_some c.in_ok-reached.reached.items c.args.function (c.in_ok-reached.ensures.all c.args.function (c.args.function ∷ [], stays)) in
    omega (arith, some, ap marked_count c.deref-in-None.ensures.value, c.count_of.ensures)

pub returns : goal.returns
returns c =
    let marking = c.in_ok-reached.ensures in
    let some = marked_some c.in_ok-reached.reached.items c.args.function (marking.all c.args.function (c.args.function ∷ [], stays)) in
    record {
      marks = c.in_ok-reached.reached.items;
      marking = marking;
      alone = λ way. c.in-None.ensures.none way.last (record { marked = subst (λ (xs : List Bool). IsMarked xs way.last) (sym c.deref.ensures.value) (marking.all way.last (way.path, way.walk)); call = way.call });
      counted = omega (arith, some, ap marked_count c.deref-in-None.ensures.value, c.count_of.ensures);
    }
