-- The lines so far are those of the scopes.
use Rattle.std.proofs.Common.{◌≡◌, take}
use Rattle.report_checks.proofs.shaping.are_scopes.Given as goal

abbrev pub invariant-loop-s : goal.invariant-loop-s
invariant-loop-s l = take l.s l.lines ≡ take l.s l.outline.scopes
