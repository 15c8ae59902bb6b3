use Rattle.std.proofs.Common.{ℕ, None, subst}
use Rattle.strided_rules.specs.Strides.{Covers}
use Rattle.abstract_memory.specs.NextOffsets.{Finds}
use Rattle.abstract_memory.proofs.Faulty.{bounds_none}
use Rattle.abstract_memory.proofs.fault.bounds_fault.Goals as goal

pub returns-in-None : goal.returns-in-None
returns-in-None c = λ fault. rw c.none.ensures
    (bounds_none c.args.members c.args.bits c.args.size fault (subst (λ (n : ℕ). Finds (Covers c.args.members) n None) c.first_past.ensures c.in-None.ensures))
