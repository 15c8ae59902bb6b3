use Rattle.std.proofs.Common.{sym, subst}
use Rattle.pointer_rules.specs.AbstractValues.{IsAbstract}
use Rattle.pointer_rules.specs.ValueLaws.{joined_is}
use Rattle.pointer_domain.proofs.value.AValLattice.join.Goals as goal

pub invariant_of-result : goal.invariant_of-result
invariant_of-result c = subst IsAbstract (sym c.in_ok-kept.ensures) (joined_is c.args.self.now c.args.other.now c.requires)
