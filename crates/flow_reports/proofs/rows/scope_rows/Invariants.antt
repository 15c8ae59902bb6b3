-- What the loop keeps.
use Rattle.std.proofs.Common.{◌≡◌, take}
use Rattle.flow_reports.proofs.rows.scope_rows.Given as goal

abbrev pub invariant-loop-s : goal.invariant-loop-s
invariant-loop-s l = l.rows.items ≡ take l.s l.outline.scopes
