use Rattle.std.proofs.Common.{◌≡◌, arith}
use Rattle.std.proofs.lemmas.Int.{ints}
use Rattle.strided_rules.specs.Strides.{centered}
use Rattle.strided_rules.specs.PlacedLaws.{centered_range}
use Rattle.strided_operators.proofs.placing.wrapped.Goals as goal

pub returns-clause-high : goal.returns-clause-high
returns-clause-high c =
    let range = centered_range c.args.size c.args.n c.requires.least in
    let same : c.sub.result ≡ centered c.args.size c.args.n = cc in
    omega (arith, ints, range.1, same)
