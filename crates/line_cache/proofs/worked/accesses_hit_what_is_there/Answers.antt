-- What is left to show of `accesses_hit_what_is_there`.
use Rattle.std.proofs.Common.{refl}
use Rattle.line_cache.proofs.worked.accesses_hit_what_is_there.Goals as goal

pub returns-clause-first : goal.returns-clause-first
returns-clause-first c = refl

pub returns-clause-second : goal.returns-clause-second
returns-clause-second c = refl

pub returns-clause-other : goal.returns-clause-other
returns-clause-other c = refl

pub returns-clause-absent : goal.returns-clause-absent
returns-clause-absent c = refl

pub returns-clause-other_set : goal.returns-clause-other_set
returns-clause-other_set c = refl

pub returns-clause-moved : goal.returns-clause-moved
returns-clause-moved c = refl

pub returns-clause-dropped : goal.returns-clause-dropped
returns-clause-dropped c = refl

pub returns-clause-own : goal.returns-clause-own
returns-clause-own c = refl

pub returns-clause-stays : goal.returns-clause-stays
returns-clause-stays c = refl

pub returns-clause-accesses : goal.returns-clause-accesses
returns-clause-accesses c = refl

pub returns-clause-two_ways : goal.returns-clause-two_ways
returns-clause-two_ways c = refl

pub returns-clause-one_way : goal.returns-clause-one_way
returns-clause-one_way c = refl
