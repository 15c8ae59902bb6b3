-- The events so far were applied.
use Rattle.std.proofs.Common.{ap, Err, arith}
use Rattle.abstract_exec.specs.declared.fault.ExecFault.{ExecFault}
use Rattle.report_checks.proofs.Events.{events_more, refused_at}
use Rattle.report_checks.proofs.applying.applied.Goals as goal

pub returns-in-Err-BadEvent-clause-some : goal.returns-in-Err-BadEvent-clause-some
returns-in-Err-BadEvent-clause-some g c =
    let is = ap (λ (fault : ExecFault). Err fault) c.in-Err-BadEvent.field-0-is in
    refused_at g.S.Stepper.machine g.S.State.Lattice.order c.args.events.now c.loop-k.k _ c.args.pool.now c.loop-k.pool c.apply.new.self c.loop-k-test.true c.loop-k.invariant.2
    (c.in-Err-BadEvent.ensures.unchanged is) (c.in-Err-BadEvent.ensures.bad is)

pub loop-k-preserved : goal.loop-k-preserved
loop-k-preserved g c =
    let low = c.loop-k-test.true in
    let on = c.in-Ok.ensures.going_on.steps in
    let most = c.loop-k.invariant.1 in (
      c.in-Ok.ensures.kept,
      omega (arith, on, most),
      events_more g.S.Stepper.machine g.S.State.Lattice.order c.args.events.now c.loop-k.k _ c.args.pool.now c.loop-k.pool c.apply.new.self low c.loop-k.invariant.2 c.in-Ok.ensures.happens,
    )
