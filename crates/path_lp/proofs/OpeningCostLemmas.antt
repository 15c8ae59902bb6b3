-- Laws of opening costs.
--   openings_above         and it is not negative
use Rattle.std.proofs.Common.{◌≤◌, ◌+◌, ℕ, pos, List, [], ◌∷◌, Contains, sym, subst, arith}
use Rattle.std.specs.Prelude.{◌≤ℤ◌}
use Rattle.lists.specs.MemberLaws.{no_member, first_or_further}
use Rattle.domain_core.specs.Outlines.{Outlined}
use Rattle.flow_facts.specs.declared.fact.Fact.{Fact}
use Rattle.flow_facts.specs.declared.fact.Fact.TheVariants.{Loop, Count, Dead, Total, Pair, Alarm}
use Rattle.path_lp.specs.Bounding.{opening_sum}
use Rattle.path_lp.specs.OpeningCostLaws.{openings_between}

-- ---- the sum

-- a number that is at least each that the facts tell of the node
abbrev most_told : ℕ → Fact → ℕ
most_told n (Total m low high) = high
most_told n (Loop s low high) = 0
most_told n (Count s m low high) = 0
most_told n (Dead m) = 0
most_told n (Pair s a b) = 0
most_told n (Alarm m why) = 0

abbrev most_of : List Fact → ℕ → ℕ
most_of [] n = 0
most_of (f ∷ facts) n = most_told n f + most_of facts n

most_is : (facts : List Fact) (n low high : ℕ) → Contains facts (Total n low high) → high ≤ most_of facts n
most_is [] n low high there = no_member (Total n low high) there
most_is (f ∷ facts) n low high there = first_or_further f facts (Total n low high) there
    (λ same. subst (λ (g : Fact). high ≤ most_told n g + most_of facts n) (sym same) (omega arith))
    (λ later. let rest = most_is facts n low high later in omega (arith, rest))

-- the sum over the openings is not negative
pub openings_above : (o : Outlined) (facts : List Fact) → pos 0 ≤ℤ opening_sum o facts
openings_above o facts = (openings_between o facts (λ n. most_of facts n) (λ n low high there. most_is facts n low high there)).0
