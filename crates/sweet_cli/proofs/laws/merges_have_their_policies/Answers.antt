-- What is left to show of `merges_have_their_policies`.
use Rattle.std.proofs.Common.{refl}
use Rattle.sweet_cli.proofs.laws.merges_have_their_policies.Goals as goal

pub returns-clause-none : goal.returns-clause-none
returns-clause-none c = refl

pub returns-clause-exits : goal.returns-clause-exits
returns-clause-exits c = refl

pub returns-clause-joins : goal.returns-clause-joins
returns-clause-joins c = refl

pub returns-clause-absent : goal.returns-clause-absent
returns-clause-absent c = refl

pub returns-clause-other : goal.returns-clause-other
returns-clause-other c = refl
