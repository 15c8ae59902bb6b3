-- Laws of frames.
use Rattle.std.proofs.Common.{◌≡◌, ◌<◌, ◌≤◌, ◌^◌, ◌+◌, ℕ, length, arith}
use Rattle.c_meaning.specs.Objects.{Program}
use Rattle.lowering_layout.specs.Spelled.{HasNames}

module _ (program : Program) (names : HasNames program) (f : ℕ) (low : f < length program.functions) where
  -- ---- frames of results

  few : (lo n m : ℕ) → n ≡ lo + m → n ≤ 10 ^ 64 → 1 ≤ m → lo < 10 ^ 64
  few lo n m e most some = omega (arith, e, most, some)
