use Rattle.alf_interp.specs.Machines.{IsStanding}
use Rattle.alf_tests.proofs.runs.run.Given as goal

abbrev pub invariant-loop : goal.invariant-loop
invariant-loop l = IsStanding l.machine
