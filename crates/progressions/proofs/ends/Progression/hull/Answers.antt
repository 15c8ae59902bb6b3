use Rattle.std.proofs.Common.{arith}
use Rattle.std.proofs.lemmas.Int.{ints, clamps}
use Rattle.progressions.proofs.ends.Progression.hull.Goals as goal

pub returns-clause-near : goal.returns-clause-near
returns-clause-near c = rw c.from_to.ensures (record {
  low = omega (arith, ints, clamps, c.least.ensures, c.requires.near.low, c.requires.other.low);
  high = omega (arith, ints, clamps, c.greatest.ensures, c.requires.near.high, c.requires.other.high);
  order = omega (arith, ints, clamps, c.least.ensures, c.greatest.ensures, c.requires.near.order);
})
