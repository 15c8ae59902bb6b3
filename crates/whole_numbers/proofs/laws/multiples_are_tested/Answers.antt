use Rattle.whole_numbers.specs.DivisionLaws.{rest_tells}
use Rattle.whole_numbers.proofs.laws.multiples_are_tested.Goals as goal

pub returns : goal.returns
returns c = rest_tells
