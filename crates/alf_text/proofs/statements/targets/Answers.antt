use Rattle.std.proofs.lemmas.List.{map-id}
use Rattle.alf_text.proofs.statements.targets.Goals as goal

pub returns : goal.returns
returns c = rw (map-id c.in_ok-targets.targets.items) at c.in_ok-targets.ensures
