-- The two memories stay ready.
use Rattle.transfer_tests.specs.Sides.{AreReady}
use Rattle.transfer_tests.proofs.steps.told_script.Given as goal

abbrev pub invariant-loop-line : goal.invariant-loop-line
invariant-loop-line l = AreReady l.sides.functions l.sides.a l.sides.b
