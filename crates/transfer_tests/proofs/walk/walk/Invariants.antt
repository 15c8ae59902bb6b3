use Rattle.abstract_step.specs.Steppers.{stepped_by}
use Rattle.transfer_tests.proofs.walk.walk.Given as goal

abbrev pub invariant-loop-word : goal.invariant-loop-word
invariant-loop-word l = goal.iterator-loop-word.can_next l.word-iterator × goal.iterator-loop-word.is_finite l.word-iterator × (stepped_by l.fn.stepper).fits l.point.0 l.point.1
