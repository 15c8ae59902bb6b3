use Rattle.alf_ops.specs.TableLaws.{one_store}
use Rattle.alf_ops.proofs.Origins.{comes_from_newest}
use Rattle.alf_ops.proofs.laws.a_byte_comes_from_the_newest_store.Goals as goal

pub returns-clause-newest : goal.returns-clause-newest
returns-clause-newest c = λ owner history frame byte offset size value. comes_from_newest owner frame byte history offset size value

pub returns-clause-one_store : goal.returns-clause-one_store
returns-clause-one_store c = one_store
