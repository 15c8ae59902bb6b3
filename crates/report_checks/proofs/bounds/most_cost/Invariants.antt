-- What the lines so far allow.
use Rattle.std.proofs.Common.{◌≡◌, ◌≤◌, ◌*◌, ◌^◌, take}
use Rattle.report_objections.specs.Objecting.{most_cost as most_cost_of}
use Rattle.report_checks.proofs.bounds.most_cost.Given as goal

abbrev pub invariant-loop-fact : goal.invariant-loop-fact
invariant-loop-fact l = (l.sum ≡ most_cost_of l.outline (take l.fact-index l.facts)) × (l.sum ≤ l.fact-index * 2 ^ 64)
