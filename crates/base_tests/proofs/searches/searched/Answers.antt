use mir.Syntax.{w128}
use Rattle.std.proofs.Common.{length, to_z, of_z, refl, arith}
use Rattle.std.proofs.lemmas.Int.{ints}
use Rattle.base_tests.proofs.searches.searched.Goals as goal

pub search-requires-clause-suits : goal.search-requires-clause-suits
search-requires-clause-suits c =
    let few = c.requires.few in
    record {
      range = record { low = to_z w128 (of_z w128 c.args.low); high = to_z w128 (of_z w128 c.args.high) };
      one = refl;
      least = omega (arith, ints);
      ordered = omega (arith, ints);
      most = omega (arith, ints);
    }
