-- On the way to the laws of order.
--   before_further    what stands before a fact stands before what that stands before
use Rattle.std.proofs.Common.{[]}
use Rattle.std.specs.Cmp.Lexicographic.{nat_list_cmp_total}
use Rattle.flow_facts.specs.declared.fact.Fact.{Fact}
use Rattle.flow_facts.specs.Writable.{IsBefore}
use Rattle.flow_facts.specs.OrderLaws.{key_of}

-- what stands before a fact stands before what that stands before
pub before_further : (f g h : Fact) → IsBefore f g → IsBefore g h → IsBefore f h
before_further f g h = nat_list_cmp_total.trans (key_of f) (key_of g) (key_of h)

-- ---- no two facts have one key
