-- What is left to show of `fault_sets_are_sets`.
use Rattle.domain_core.specs.FaultLaws.{is_empty, is_new, is_kept, is_united}
use Rattle.domain_core.proofs.laws.fault_sets_are_sets.Goals as goal

pub returns-clause-empty : goal.returns-clause-empty
returns-clause-empty c = is_empty c.args.kind

pub returns-clause-new : goal.returns-clause-new
returns-clause-new c = is_new c.args.a c.args.kind

pub returns-clause-kept : goal.returns-clause-kept
returns-clause-kept c = is_kept c.args.a c.args.kind c.args.other

pub returns-clause-united : goal.returns-clause-united
returns-clause-united c = is_united c.args.a c.args.b c.args.kind
