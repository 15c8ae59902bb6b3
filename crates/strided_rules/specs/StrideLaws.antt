-- Strided values are a domain.
--   stride_is_sets   the laws of a domain
use Rattle.std.proofs.Common.{refl}
use Rattle.domain_core.specs.WordSets.{IsWordSets}
use Rattle.strided_rules.specs.Strides.{Stride}
use Rattle.strided_rules.specs.Domains.{stride_order, stride_sets}
use Rattle.strided_rules.specs.PlacedLaws.{join_placed, member_below, one_placed, every_placed, whole_member}
use Rattle.strided_rules.specs.MemberLaws.{has_tells, one_only}
use Rattle.strided_rules.specs.DomainLaws.{is_applied}
use Rattle.strided_rules.specs.AssumedLaws.{is_assumed, is_kept, joined_one}

pub stride_is_sets : IsWordSets Stride stride_order stride_sets
stride_is_sets = record {
  sized = λ x s. s.size;
  fits = λ x t s h. member_below x.size x.numbers t h;
  alike = λ a b of_a of_b same. record { first = of_a; second = of_b; size = same };
  joined_size = λ a b of_a of_b same. record { kept = record { size = of_a.size; placed = join_placed a.size a.numbers b.numbers of_a.size.least of_a.placed.progression of_b.placed.progression }; size = refl };
  above = λ a b t under. under.1 t;
  joined_one = λ a b t of_a of_b same. joined_one a b t of_a of_b same;
  single_size = λ w t size small. record { kept = one_placed w t size; size = refl };
  single_only = λ w t size small. one_only w t size.least small;
  whole_size = λ w size. record { kept = every_placed w size; size = refl };
  whole_covers = λ w t size small. whole_member w t size.least small;
  tested = λ x t s. has_tells x t s;
  applied = λ op sizes args typed sized of_args. is_applied op sizes args typed sized of_args;
  assumed = λ rel a b of_a of_b same. is_assumed rel a b of_a of_b same;
  only = λ x t s. is_kept x t s;
}
