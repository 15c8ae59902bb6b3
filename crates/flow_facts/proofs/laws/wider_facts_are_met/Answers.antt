-- What is left to show of `wider_facts_are_met`.
use Rattle.flow_facts.proofs.Wider.{wider_met}
use Rattle.flow_facts.proofs.laws.wider_facts_are_met.Goals as goal

pub returns : goal.returns
returns c = wider_met c.args.fact c.args.wider
