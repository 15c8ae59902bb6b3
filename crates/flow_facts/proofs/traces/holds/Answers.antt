-- What is left to show of `holds`.
use Rattle.std.proofs.Common.{◌↔◌, sym, subst, ℕ}
use Rattle.std.specs.Prelude.{IsTrue, List}
use Rattle.domain_core.specs.Outlines.{shape_of}
use Rattle.domain_core.specs.Executions.{IsExecution}
use Rattle.flow_facts.specs.Facts.{Meets, IsBetween, places}
use Rattle.flow_facts.specs.declared.fact.Fact.{Fact}
use Rattle.flow_facts.proofs.traces.holds.Goals as goal

pub returns-in-Loop : goal.returns-in-Loop
returns-in-Loop c =
    subst (λ (f : Fact). IsTrue c.executions_fit.result ↔ Meets (shape_of c.args.outline.now) c.args.trace.now f) (sym c.in-Loop.is)
    (subst (λ (h : ℕ). IsTrue c.executions_fit.result ↔ ((e : List ℕ) → IsExecution (shape_of c.args.outline.now) c.in-Loop.s c.args.trace.now e → IsBetween c.in-Loop.low c.in-Loop.high (places h e)))
    c.header-node.ensures c.executions_fit.ensures)

pub returns-in-Count : goal.returns-in-Count
returns-in-Count c = subst (λ (f : Fact). IsTrue c.executions_fit-in-Count.result ↔ Meets (shape_of c.args.outline.now) c.args.trace.now f) (sym c.in-Count.is) c.executions_fit-in-Count.ensures

pub returns-in-Pair : goal.returns-in-Pair
returns-in-Pair c = subst (λ (f : Fact). IsTrue c.are_apart.result ↔ Meets (shape_of c.args.outline.now) c.args.trace.now f) (sym c.in-Pair.is) c.are_apart.ensures
