-- Progressions of whole numbers: lo, lo + step, .., hi.
--   Has p n                n is one of the numbers of p
--   IsProgression p        lo, hi and step belong together: there is a number, and of one the step is 0
--   IsPlaced w p           p is in normal form at the size w: its low end in the signed range, and no number twice modulo 2 to the size
--   full w, half w         2 to the size, and half of it
--   from_to lo hi step     the numbers from lo to hi, with step 0 where there is one
--   lone n                 the number n alone
--   hull p q               the least progression round both
--   HasSome o n            there is a progression, and it has n
--   IfProgression o        it is one, if there is one
use Rattle.std.specs.Prelude.{◌≡◌, ℕ, ℤ, pos, neg_ℤ, ◌-ℤ◌, ◌≤ℤ◌, ◌<ℤ◌, int_lt, ◌-◌, ◌^◌, if◌then◌else◌, Option, Some, None}
use Rattle.std.specs.Int.{int_min, int_max}
use Rattle.whole_numbers.specs.Numbers.{Divides, gcd}
use Rattle.progressions.specs.declared.ends.Progression.{Progression}

-- n is one of the numbers of p
pub record Has (p : Progression) (n : ℤ) : Type 0 where
  pub least : p.lo ≤ℤ n
  pub most : n ≤ℤ p.hi
  pub aligned : Divides p.step (n -ℤ p.lo)

-- the ends and the step belong together
pub record IsProgression (p : Progression) : Type 0 where
  pub order : p.lo ≤ℤ p.hi
  pub rising : pos 0 ≤ℤ p.step
  pub aligned : Divides p.step (p.hi -ℤ p.lo)
  pub lone : p.lo ≡ p.hi → p.step ≡ pos 0

-- 2 to the size, and half of it
abbrev pub full : ℕ → ℤ
full w = pos (2 ^ w)

abbrev pub half : ℕ → ℤ
half w = pos (2 ^ (w - 1))

-- normal form at the size w
pub record IsPlaced (w : ℕ) (p : Progression) : Type 0 where
  pub progression : IsProgression p
  pub low : neg_ℤ (half w) ≤ℤ p.lo
  pub high : p.lo <ℤ half w
  pub once : (p.hi -ℤ p.lo) <ℤ full w

-- the numbers from lo to hi by step; of one number the step is 0
abbrev pub from_to : ℤ → ℤ → ℤ → Progression
from_to lo hi step = record { lo = lo; hi = hi; step = if int_lt lo hi then step else pos 0 }

-- one number
abbrev pub lone : ℤ → Progression
lone n = record { lo = n; hi = n; step = pos 0 }

-- the progression round both
unfoldable pub hull : Progression → Progression → Progression
hull p q = from_to (int_min p.lo q.lo) (int_max p.hi q.hi) (gcd (gcd p.step q.step) (p.lo -ℤ q.lo))

-- there is a progression, and it has n
abbrev pub HasSome : Option Progression → ℤ → Type 0
HasSome None n = ⊥
HasSome (Some p) n = Has p n

-- what is there is a progression
abbrev pub IfProgression : Option Progression → Type 0
IfProgression None = Unit {0}
IfProgression (Some p) = IsProgression p
