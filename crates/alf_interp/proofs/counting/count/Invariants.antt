use Rattle.alf_check.specs.CheckedPrograms.{seen}
use Rattle.alf_runs.specs.Starts.{start}
use Rattle.alf_interp.proofs.Turning.{SoFar}
use Rattle.alf_interp.proofs.counting.count.Given as goal

abbrev pub invariant-loop-turn : goal.invariant-loop-turn
invariant-loop-turn l =
    SoFar (seen l.checked) l.graph l.costs (start (seen l.checked) l.rows l.words) l.turn l.at l.counts.items l.cost l.machine
