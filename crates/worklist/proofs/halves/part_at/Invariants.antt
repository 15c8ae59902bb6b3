use Rattle.std.proofs.Common.{◌≡◌, ◌+◌, ◌≤◌, length, reverse, vec_len}
use Rattle.worklist.specs.Lines.{line_of, AreFirst, AreLeast}
use Rattle.worklist.proofs.halves.part_at.Given as goal

abbrev pub invariant-loop-earlier : goal.invariant-loop-earlier
invariant-loop-earlier g l = record {
  total : l.count ≤ length l.earlier.items + length l.later.items;
  same : line_of l.earlier.items l.later.items ≡ line_of l.fn.earlier.items l.fn.later.items;
  first : AreFirst g.X.Keyed.key_of (reverse l.earlier.items);
  least : AreLeast g.X.Keyed.key_of (reverse l.later.items);
}

abbrev pub decreases-loop-earlier : goal.decreases-loop-earlier
decreases-loop-earlier g l = vec_len l.earlier

abbrev pub invariant-loop-later : goal.invariant-loop-later
invariant-loop-later g l = record {
  within : length l.earlier.items ≤ l.count;
  total : l.count ≤ length l.earlier.items + length l.later.items;
  same : line_of l.earlier.items l.later.items ≡ line_of l.fn.earlier.items l.fn.later.items;
  first : AreFirst g.X.Keyed.key_of (reverse l.earlier.items);
  least : AreLeast g.X.Keyed.key_of (reverse l.later.items);
}

abbrev pub decreases-loop-later : goal.decreases-loop-later
decreases-loop-later g l = vec_len l.later
