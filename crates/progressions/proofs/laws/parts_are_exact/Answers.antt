use Rattle.progressions.specs.PartLaws.{from_least_has, up_to_has, without_first_has, without_last_has}
use Rattle.progressions.proofs.laws.parts_are_exact.Goals as goal

pub returns-clause-from_least : goal.returns-clause-from_least
returns-clause-from_least c = from_least_has

pub returns-clause-up_to : goal.returns-clause-up_to
returns-clause-up_to c = up_to_has

pub returns-clause-without_first : goal.returns-clause-without_first
returns-clause-without_first c = without_first_has

pub returns-clause-without_last : goal.returns-clause-without_last
returns-clause-without_last c = without_last_has
