-- What is left to show of `choose`.
use Rattle.std.proofs.Common.{subst, sym}
use Rattle.std.proofs.lemmas.Result.{IfOk-weaker}
use Rattle.domain_core.specs.Outlines.{shape_of}
use Rattle.abstract_exec.specs.Points.{AreMergePoints}
use Rattle.abstract_exec.proofs.Moves.{flag_there, IsAllowed, is_allowed}
use Rattle.abstract_exec.proofs.pool.Pool.choose.Goals as goal

pub next_event-requires-clause-nodes : goal.next_event-requires-clause-nodes
next_event-requires-clause-nodes g c = λ spot there. flag_there g.S.Stepper.machine g.S.State.Lattice.order g.R.Lattice.order g.R.Recorder.recording _ c.args.self.now c.self.view_is c.args.policy c.args.points.now spot c.requires.kept c.requires.points there

pub returns-clause-allowed : goal.returns-clause-allowed
returns-clause-allowed g c =
    let points = subst (λ v. AreMergePoints (shape_of v.outline) c.args.policy c.args.points.now) (sym c.self.view_is) c.requires.points in
    IfOk-weaker _ _ _
    (λ event told. subst (IsAllowed g.S.Stepper.machine g.S.State.Lattice.order g.R.Lattice.order g.R.Recorder.recording event) c.self.view_is
    (is_allowed g.S.Stepper.machine g.S.State.Lattice.order g.R.Lattice.order g.R.Recorder.recording c.args.policy _ event (told (shape_of c.self.inside.outline.now) c.args.policy points)))
    c.next_event.ensures.choice
