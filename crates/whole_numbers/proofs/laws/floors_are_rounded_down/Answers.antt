use Rattle.whole_numbers.proofs.DivisionLemmas.{quotient_floor}
use Rattle.whole_numbers.proofs.laws.floors_are_rounded_down.Goals as goal

pub returns : goal.returns
returns c = quotient_floor
