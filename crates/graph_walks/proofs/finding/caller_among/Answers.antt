-- What is left to show of `caller_among`.
use Rattle.std.proofs.Common.{◌≡◌, ℕ, true, false, below_more, sym, ◌∙◌, arith}
use Rattle.graph_walks.specs.TableLaws.{rows_long}
use Rattle.graph_walks.specs.MarkedNodeLaws.{both}
use Rattle.graph_walks.specs.Calls.{calls_of}
use Rattle.graph_walks.specs.CallLaws.{caller_low}
use Rattle.graph_walks.specs.Findings.{IsCaller}
use Rattle.graph_walks.proofs.finding.caller_among.Goals as goal
use Rattle.graph_walks.proofs.finding.caller_among.Goals.{else-marks-caller-via-then-marks-caller+else-is_call, else-marks-caller-via-else-marks-caller}

pub loop-caller-preserved : goal.loop-caller-preserved
loop-caller-preserved c =
    below_more (λ (g : ℕ). IsCaller (calls_of c.args.calls.now) c.args.marks.now c.args.function g → ⊥) c.loop-caller.caller c.loop-caller.invariant (
    λ is. elim c.else-marks-caller.branch [
      | else-marks-caller-via-then-marks-caller+else-is_call w ↦ let e : false ≡ true = sym w.if-is_call.false ∙ w.is_call.ensures.1 is.call in cc
      | else-marks-caller-via-else-marks-caller w ↦ both c.args.marks.now c.loop-caller.caller w.if-marks-caller.false is.marked
    ]
    )

pub returns-clause-none : goal.returns-clause-none
returns-clause-none c = λ g is.
    let low = caller_low (calls_of c.args.calls.now) g c.args.function is.call in
    let long = rows_long c.args.calls.now in
    c.loop-caller.invariant g (omega arith) is
