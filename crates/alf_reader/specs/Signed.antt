-- Words of a size, read in two's complement.
use Rattle.std.proofs.Common.{◌≡◌, ◌≤◌, ◌-◌, ◌^◌, ℕ}
use Rattle.alf_ops.specs.TwosComplement.{distance}

-- what is known of a word that is below 0, and of any other
pub record IsBelow (s b : ℕ) : Type 0 where
  -- it is as far below 0 as is left of the power of its size
  pub far : distance s b ≡ 2 ^ s - b
  -- which is at most half of that
  pub near : 2 ^ (s - 1) ≤ b
