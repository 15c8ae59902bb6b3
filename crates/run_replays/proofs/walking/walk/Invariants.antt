use Rattle.alf_check.specs.CheckedPrograms.{seen}
use Rattle.alf_runs.specs.Starts.{start}
use Rattle.run_replays.proofs.WalkSteps.{SoFar}
use Rattle.run_replays.proofs.walking.walk.Given as goal

abbrev pub invariant-loop-turn : goal.invariant-loop-turn
invariant-loop-turn g l =
    SoFar g.R.Recorder.recording (seen l.checked) l.graph l.outline (start (seen l.checked) l.rows l.words) l.fn.allowed.items l.turn l.at l.left.items l.cost l.recorder l.book l.machine
