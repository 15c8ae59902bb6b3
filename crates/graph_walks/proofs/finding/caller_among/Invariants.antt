-- What the loop of `caller_among` keeps.
use Rattle.std.proofs.Common.{◌<◌, ℕ}
use Rattle.graph_walks.specs.Calls.{calls_of}
use Rattle.graph_walks.specs.Findings.{IsCaller}
use Rattle.graph_walks.proofs.finding.caller_among.Given as goal

abbrev pub invariant-loop-caller : goal.invariant-loop-caller
invariant-loop-caller l = (g : ℕ) → g < l.caller → IsCaller (calls_of l.calls) l.marks l.function g → ⊥
