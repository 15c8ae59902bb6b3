use Rattle.transfer_rules.proofs.TransferLemmas.{expressions_tell, expressions_tell_only}
use Rattle.transfer_rules.proofs.step_laws.expressions_are_told.Goals as goal

pub returns-clause-covering : goal.returns-clause-covering
returns-clause-covering c = expressions_tell

pub returns-clause-sharp : goal.returns-clause-sharp
returns-clause-sharp c = expressions_tell_only
