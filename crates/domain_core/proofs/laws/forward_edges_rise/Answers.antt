-- What is left to show of `forward_edges_rise`.
use Rattle.domain_core.proofs.OutlineLemmas.{forward_rises}
use Rattle.domain_core.proofs.laws.forward_edges_rise.Goals as goal

pub returns : goal.returns
returns c = forward_rises
