-- The rules at values of 8 bits, by computing.
use Rattle.std.proofs.Common.{◌≡◌, pos, neg_ℤ, Some, None, refl}
use Rattle.whole_numbers.specs.Numbers.{gcd_nat}
use Rattle.domain_core.specs.declared.relation.Rel.TheVariants.{SLt, ULt}
use Rattle.progressions.specs.Progressions.{from_to, hull}
use Rattle.progressions.specs.Images.{sums}
use Rattle.progressions.specs.Parts.{from_least, up_to, without_first, without_last}
use Rattle.strided_rules.specs.Strides.{norm, join, one_word}
use Rattle.strided_rules.specs.Joins.{each, each_pair}
use Rattle.strided_rules.specs.Rules.{rests, lesser}
use Rattle.strided_rules.specs.Members.{assumed, without, only}
use Rattle.strided_rules.specs.Operators.{add, u_mod, signed_pair}

pub normed : norm 8 (from_to (pos 250) (pos 255) (pos 1)) ≡ from_to (neg_ℤ (pos 6)) (neg_ℤ (pos 1)) (pos 1)
unfolding norm
normed = refl

pub joined : join 8 (from_to (pos 120) (pos 127) (pos 1)) (from_to (neg_ℤ (pos 128)) (neg_ℤ (pos 120)) (pos 1)) ≡ from_to (pos 120) (pos 136) (pos 1)
unfolding norm join hull gcd_nat
joined = refl

pub sum : add (record { size = 8; numbers = from_to (pos 4) (pos 10) (pos 2) }) (one_word 8 250) (one_word 1 0) ≡ record { size = 8; numbers = from_to (neg_ℤ (pos 2)) (pos 4) (pos 2) }
unfolding norm join hull gcd_nat sums
sum = refl

pub remainder : u_mod (record { size = 8; numbers = from_to (pos 0) (pos 9) (pos 1) }) (one_word 8 4) ≡ record { size = 8; numbers = from_to (pos 0) (pos 3) (pos 1) }
unfolding norm join hull gcd_nat each rests from_least up_to
remainder = refl

pub lesser_of : signed_pair 8 lesser (record { size = 8; numbers = from_to (neg_ℤ (pos 3)) (pos 4) (pos 1) }) (one_word 8 2) ≡ record { size = 8; numbers = from_to (neg_ℤ (pos 3)) (pos 2) (pos 1) }
unfolding norm join hull gcd_nat each_pair lesser from_least up_to
lesser_of = refl

pub below : assumed SLt (record { size = 8; numbers = from_to (neg_ℤ (pos 5)) (pos 5) (pos 1) }) (one_word 8 5) ≡ Some (record { size = 8; numbers = from_to (neg_ℤ (pos 5)) (pos 4) (pos 1) })
unfolding norm join hull gcd_nat each from_least up_to
below = refl

pub below_unsigned : assumed ULt (record { size = 8; numbers = from_to (neg_ℤ (pos 1)) (pos 1) (pos 1) }) (one_word 8 3) ≡ Some (record { size = 8; numbers = from_to (pos 0) (pos 1) (pos 1) })
unfolding norm join hull gcd_nat each from_least up_to
below_unsigned = refl

pub left_out : without (record { size = 8; numbers = from_to (pos 0) (pos 9) (pos 3) }) 9 ≡ Some (record { size = 8; numbers = from_to (pos 0) (pos 6) (pos 3) })
unfolding norm join hull gcd_nat each from_least up_to without_first without_last
left_out = refl

pub not_there : only (record { size = 8; numbers = from_to (pos 0) (pos 9) (pos 3) }) 4 ≡ None
unfolding norm
not_there = refl
