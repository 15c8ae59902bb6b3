-- What is left to show of `lines_order_facts`.
use Rattle.flow_facts.specs.OrderLaws.{never_itself, one_before}
use Rattle.flow_facts.proofs.OrderLemmas.{before_further}
use Rattle.flow_facts.proofs.laws.lines_order_facts.Goals as goal

pub returns-clause-further : goal.returns-clause-further
returns-clause-further c = before_further c.args.f c.args.g c.args.h

pub returns-clause-once : goal.returns-clause-once
returns-clause-once c = never_itself c.args.f

pub returns-clause-all : goal.returns-clause-all
returns-clause-all c = one_before c.args.f c.args.g
