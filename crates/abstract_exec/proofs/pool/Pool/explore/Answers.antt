use Rattle.std.proofs.Common.{◌≡◌, ◌<◌, length, ap, ◌∙◌, arith}
use Rattle.abstract_exec.proofs.Moves.{one_more, finished}
use Rattle.abstract_exec.proofs.pool.Pool.explore.Goals.{then-loop-alloc-test+else-self-turns, else-loop-alloc-test}
use Rattle.abstract_exec.proofs.pool.Pool.explore.Goals as goal

pub loop-alloc-preserved : goal.loop-alloc-preserved
loop-alloc-preserved g c =
    let same : c.self-in-loop-alloc.inside.steps ≡ c.loop-alloc.self.steps = ap (λ w. w.steps) c.self-in-loop-alloc.view_is in
    let low : c.loop-alloc.self.steps < c.args.turns = omega (arith, same, c.if-self-turns.true) in
    let more = one_more g.S.Stepper.machine g.S.State.Lattice.order g.R.Lattice.order g.R.Recorder.recording c.args.policy c.args.turns c.in_ok-points.points.items c.args.self.now c.loop-alloc.events.items c.loop-alloc.self c.turn.new.self c.in_ok-event.event
    c.loop-alloc.invariant low c.in_ok-event.ensures.choice c.in_ok-event.ensures.happens c.in_ok-event.ensures.kept in
    rw c.in_ok-push.ensures.items more

pub returns-clause-explored : goal.returns-clause-explored
returns-clause-explored g c =
    let same : c.self-in-loop-alloc.inside.steps ≡ c.loop-alloc.self.steps = ap (λ w. w.steps) c.self-in-loop-alloc.view_is in
    let count : c.len.result ≡ length c.loop-alloc.self.spots = c.len.ensures ∙ ap (λ w. length w.spots) c.self-in-loop-alloc.view_is in
    finished g.S.Stepper.machine g.S.State.Lattice.order g.R.Lattice.order g.R.Recorder.recording c.args.policy c.args.turns c.loop-alloc.events.items c.args.self.now c.loop-alloc.self c.ended.result c.loop-alloc.invariant.run c.loop-alloc.invariant.later.steps
    (λ some less. elim c.loop-alloc-test.branch [
      | then-loop-alloc-test+else-self-turns v ↦ absurd (omega (arith, same, less, v.if-self-turns.false))
      | else-loop-alloc-test v ↦ absurd (omega (arith, count, some, v.loop-alloc-test.false))
    ])
    c.ended.ensures
