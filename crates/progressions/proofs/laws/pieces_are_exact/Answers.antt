use Rattle.progressions.specs.PartLaws.{unsigned_has, signed_has}
use Rattle.progressions.proofs.laws.pieces_are_exact.Goals as goal

pub returns-clause-unsigned : goal.returns-clause-unsigned
returns-clause-unsigned c = unsigned_has

pub returns-clause-signed : goal.returns-clause-signed
returns-clause-signed c = signed_has
