-- What is left to show of `an_outline_nests_its_scopes`.
use Rattle.domain_core.specs.OutlineLaws.{lies_in, own_smallest, around_is}
use Rattle.domain_core.proofs.OutlineLemmas.{scopes_nested}
use Rattle.domain_core.proofs.laws.an_outline_nests_its_scopes.Goals as goal

pub returns-clause-nested : goal.returns-clause-nested
returns-clause-nested c = scopes_nested

pub returns-clause-inside : goal.returns-clause-inside
returns-clause-inside c = lies_in

pub returns-clause-smallest : goal.returns-clause-smallest
returns-clause-smallest c = own_smallest

pub returns-clause-around : goal.returns-clause-around
returns-clause-around c = around_is
