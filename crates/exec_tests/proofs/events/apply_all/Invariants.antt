-- What the walk over the events keeps.
use Rattle.std.proofs.Common.{◌≡◌}
use Rattle.abstract_exec.specs.Explorations.{IsPool}
use Rattle.exec_tests.proofs.events.apply_all.Given as goal

abbrev pub invariant-loop-word : goal.invariant-loop-word
invariant-loop-word g l =
    (goal.iterator-loop-word g).can_next l.word-iterator
    × (goal.iterator-loop-word g).is_finite l.word-iterator
    × IsPool g.S.Stepper.machine g.R.Recorder.recording l.pool
    × (l.pool.outline ≡ l.fn.pool.outline)
