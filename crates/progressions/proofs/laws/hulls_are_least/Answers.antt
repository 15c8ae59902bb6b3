use Rattle.progressions.specs.ProgressionLaws.{hull_first, hull_second, is_hull}
use Rattle.progressions.proofs.ProgressionLemmas.{hull_least}
use Rattle.progressions.proofs.laws.hulls_are_least.Goals as goal

pub returns-clause-first : goal.returns-clause-first
returns-clause-first c = hull_first

pub returns-clause-second : goal.returns-clause-second
returns-clause-second c = hull_second

pub returns-clause-progression : goal.returns-clause-progression
returns-clause-progression c = is_hull

pub returns-clause-least : goal.returns-clause-least
returns-clause-least c = hull_least
