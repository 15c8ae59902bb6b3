-- The events so far were applied.
use Rattle.std.proofs.Common.{◌≤◌, ◌+◌, take}
use Rattle.abstract_exec.specs.Explorations.{IsPool}
use Rattle.worklist_rules.specs.Events.{HappenAll}
use Rattle.report_soundness.specs.ReportTold.{four_order, four_recording}
use Rattle.report_checks.proofs.applying.applied.Given as goal

abbrev pub invariant-loop-k : goal.invariant-loop-k
invariant-loop-k g l = IsPool g.S.Stepper.machine four_recording l.pool × (l.pool.steps ≤ l.fn.pool.steps + l.k)
    × HappenAll g.S.Stepper.machine g.S.State.Lattice.order four_order four_recording l.fn.pool (take l.k l.events) l.pool
