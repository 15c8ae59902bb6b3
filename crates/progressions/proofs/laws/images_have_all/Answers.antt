use Rattle.progressions.specs.ImageLaws.{negated_has, sums_has, differences_has, products_has, multiples_has, quotients_has}
use Rattle.progressions.specs.PartLaws.{moved_has}
use Rattle.progressions.proofs.laws.images_have_all.Goals as goal

pub returns-clause-moved : goal.returns-clause-moved
returns-clause-moved c = moved_has

pub returns-clause-negated : goal.returns-clause-negated
returns-clause-negated c = negated_has

pub returns-clause-sums : goal.returns-clause-sums
returns-clause-sums c = sums_has

pub returns-clause-differences : goal.returns-clause-differences
returns-clause-differences c = differences_has

pub returns-clause-products : goal.returns-clause-products
returns-clause-products c = products_has

pub returns-clause-multiples : goal.returns-clause-multiples
returns-clause-multiples c = multiples_has

pub returns-clause-quotients : goal.returns-clause-quotients
returns-clause-quotients c = quotients_has
