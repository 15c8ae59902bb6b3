-- On the way to the laws of part.
--   from_least_small, up_to_small   parts of a small progression are small
use Rattle.std.proofs.Common.{ℤ, arith, Option, Some, None}
use Rattle.std.specs.Prelude.{◌≤ℤ◌}
use Rattle.std.proofs.lemmas.Int.{ints}
use Rattle.progressions.specs.declared.ends.Progression.{Progression}
use Rattle.progressions.specs.Progressions.{Has, IsProgression, HasSome, IfProgression}
use Rattle.progressions.specs.Parts.{from_least, up_to}
use Rattle.progressions.specs.Limits.{IsSmall, IfSmall}
use Rattle.progressions.specs.ProgressionLaws.{has_lo, has_hi, step_width}
use Rattle.progressions.specs.PartLaws.{from_least_has, from_least_is, up_to_has, up_to_is}

-- Parts of a small progression are small.

part_small : (p q : Progression) → IsSmall p → IsProgression q → p.lo ≤ℤ q.lo → q.hi ≤ℤ p.hi → IsSmall q
part_small p q small is low high =
    let s = step_width q is in
    record { low = omega (arith, ints, small.low, low); high = omega (arith, ints, small.high, high); order = is.order; rising = is.rising; near = omega (arith, ints, s, small.low, small.high, low, high) }

-- a part that has no other numbers
small_of : (p : Progression) (o : Option Progression) → IsSmall p → IfProgression o → ((n : ℤ) → HasSome o n → Has p n)
    → IfSmall o
small_of p None small is inside = tt
small_of p (Some q) small is inside = part_small p q small is (inside q.lo (has_lo q is)).least (inside q.hi (has_hi q is)).most

pub from_least_small : (least : ℤ) (p : Progression) → IsProgression p → IsSmall p → IfSmall (from_least least p)
from_least_small least p is small = small_of p (from_least least p) small (from_least_is least p is) (λ n h. ((from_least_has least p n is).0 h).0)

pub up_to_small : (greatest : ℤ) (p : Progression) → IsProgression p → IsSmall p → IfSmall (up_to greatest p)
up_to_small greatest p is small = small_of p (up_to greatest p) small (up_to_is greatest p is) (λ n h. ((up_to_has greatest p n is).0 h).0)
