-- What is left to show of `start`.
use Rattle.std.proofs.Common.{subst, sym}
use Rattle.std.proofs.lemmas.Result.{IfOk-weaker}
use Rattle.abstract_exec.specs.Explorations.{IsPool}
use Rattle.abstract_exec.proofs.Moves.{pool_opened}
use Rattle.abstract_exec.proofs.pool.Pool.start.Goals as goal

pub returns-clause-kept : goal.returns-clause-kept
returns-clause-kept g c =
    IfOk-weaker _ _ _
    (λ pool is. subst (IsPool g.S.Stepper.machine g.R.Recorder.recording) (sym is)
    (pool_opened g.S.Stepper.machine g.S.State.Lattice.order g.R.Lattice.order g.R.Recorder.recording c.args.stepper.now c.args.outline.now (g.met.S.Stepper.is_machine c.args.stepper.now c.kept.ensures) g.met.R.Recorder.is_recording c.kept.ensures (record { suits = c.requires.suits; kept = c.kept-2.ensures }) c.requires.along))
    c.open.ensures
