use Rattle.strided_rules.proofs.WorkedRows.{normed, joined}
use Rattle.strided_rules.proofs.worked.values_are_normed_and_joined.Goals as goal

pub returns-clause-normed : goal.returns-clause-normed
returns-clause-normed c = normed

pub returns-clause-joined : goal.returns-clause-joined
returns-clause-joined c = joined
