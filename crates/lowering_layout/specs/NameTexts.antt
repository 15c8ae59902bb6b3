-- Names in a lowered program are names of ALF.
use Rattle.std.proofs.Common.{◌≤◌, ℕ}
use Rattle.c_meaning.specs.Objects.{Program}
use Rattle.lowering_layout.specs.Spelled.{HasNames}

-- ---- bytes

pub record InRange (low high b : ℕ) : Type 0 where
  pub from : low ≤ b
  pub to : b ≤ high
