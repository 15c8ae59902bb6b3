use Rattle.strided_operators.proofs.Factors.{are_factors, products_place}
use Rattle.strided_operators.proofs.pair_rules.ProductsPairRule.at_both.Goals as goal

pub products-requires : goal.products-requires
products-requires c = are_factors c.args.p.now c.args.q.now c.requires.0 c.requires.1

pub returns-clause-place : goal.returns-clause-place
returns-clause-place c = rw c.products.ensures (products_place c.args.p.now c.args.q.now c.requires.0 c.requires.1)
