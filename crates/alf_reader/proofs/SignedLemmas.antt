-- Laws of signed.
--   half_below   half of the words lies below the power of the size
use Rattle.std.proofs.Common.{◌<◌, ◌≤◌, ◌-◌, ◌^◌, ℕ, arith}
use Rattle.alf_reader.specs.SignedLaws.{some_power, half_power}

-- half of the words lies below the power of the size
pub half_below : (s d : ℕ) → 1 ≤ s → d ≤ 2 ^ (s - 1) → d < 2 ^ s
half_below s d some le = omega (arith, half_power s some, some_power (s - 1))
