-- The openings open the program.
use Rattle.simplex_rules.proofs.OutlineOpeningLaws.{outline_opens}
use Rattle.simplex_rules.proofs.laws.outlines_open.Goals as goal

pub returns : goal.returns
returns c = outline_opens
