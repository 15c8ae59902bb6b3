use Rattle.worklist.proofs.Ends.{first_at_end}
use Rattle.worklist.proofs.earlier.least_earlier.Goals as goal

pub returns : goal.returns
returns g c = first_at_end g.X.Keyed.key_of c.args.earlier.now c.index-earlier-earlier.result c.requires.some c.requires.first
