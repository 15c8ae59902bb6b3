-- What the loop over both lists keeps.
use Rattle.std.proofs.Common.{◌≡◌, take}
use Rattle.flow_recorders.specs.SpanLists.{spans_in}
use Rattle.flow_recorders.proofs.ends.Ends.agrees.Given as goal

abbrev pub invariant-loop-i : goal.invariant-loop-i
invariant-loop-i l = take l.i (spans_in l.self) ≡ take l.i (spans_in l.other)
