-- What is left is put before what stands there.
use Rattle.std.proofs.Common.{◌≡◌, ◌≤◌, ◌++◌, length, take, drop, vec_len}
use Rattle.abstract_exec.proofs.room.put_all.Given as goal

abbrev pub invariant-loop-element : goal.invariant-loop-element
invariant-loop-element g l = record {
  within : l.place ≤ length l.line;
  same : take l.place l.line ++ (l.made.items ++ drop l.place l.line) ≡ take l.place l.fn.line ++ (l.fn.made.items ++ drop l.place l.fn.line);
}

abbrev pub decreases-loop-element : goal.decreases-loop-element
decreases-loop-element g l = vec_len l.made
