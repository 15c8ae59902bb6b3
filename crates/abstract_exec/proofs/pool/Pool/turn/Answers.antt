-- What is left to show of `turn`.
use Rattle.std.proofs.Common.{subst, sym, ap, Err}
use Rattle.worklist_rules.specs.Events.{Happens}
use Rattle.abstract_exec.proofs.pool.Pool.turn.Goals as goal

pub unreachable-requires : goal.unreachable-requires
unreachable-requires g c =
    c.in_ok-event.ensures.allowed
    (λ w happens. c.in-Err-BadEvent.ensures.bad (ap Err c.in-Err-BadEvent.field-0-is) w
    (subst (λ v. Happens g.S.Stepper.machine g.S.State.Lattice.order g.R.Lattice.order g.R.Recorder.recording v c.in_ok-event.event w) (sym c.in_ok-event.ensures.same) happens))
