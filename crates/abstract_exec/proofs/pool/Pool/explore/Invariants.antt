-- What each turn of an exploration keeps.
use Rattle.abstract_exec.specs.TurnLaws.{left_to_do}
use Rattle.abstract_exec.proofs.Moves.{Explores}
use Rattle.abstract_exec.proofs.pool.Pool.explore.Given as goal

abbrev pub invariant-loop-alloc : goal.invariant-loop-alloc
invariant-loop-alloc g l = Explores g.S.Stepper.machine g.S.State.Lattice.order g.R.Lattice.order g.R.Recorder.recording l.policy l.turns l.points.items l.fn.self l.events.items l.self

abbrev pub decreases-loop-alloc : goal.decreases-loop-alloc
decreases-loop-alloc g l = left_to_do g.S.Stepper.machine g.S.State.Lattice.order g.R.Lattice.order g.R.Recorder.recording l.turns l.self
