use Rattle.run_replays.proofs.Allowing.{AllowSoFar}
use Rattle.run_replays.proofs.allowed.allowed.Given as goal

abbrev pub invariant-loop-fact : goal.invariant-loop-fact
invariant-loop-fact l = AllowSoFar l.outline l.facts l.fact-index l.visits.items
