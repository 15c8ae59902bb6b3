-- The opening in plain numbers, and what it hands out.
use Rattle.simplex_rules.specs.OpeningPlaces.{opening_places}
use Rattle.simplex_rules.specs.OpeningPlaceLaws.{opens_lines}
use Rattle.simplex_rules.specs.PlainOpeningLaws.{plain_opening}
use Rattle.simplex_rules.proofs.NarrowOpeningLaws.{opening_narrow}
use Rattle.simplex_rules.proofs.laws.opening_fits.Goals as goal

pub returns-clause-plain : goal.returns-clause-plain
returns-clause-plain c = λ p os m is o low. plain_opening p (opening_places p.rows os) is (opens_lines p os o) m low

pub returns-clause-narrow : goal.returns-clause-narrow
returns-clause-narrow c = opening_narrow
