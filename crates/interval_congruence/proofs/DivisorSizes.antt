-- What is left of a divisor.
--   divisor_divides   it is a divisor
--   sized_alike       a value of the same size is sized so too
use Rattle.std.proofs.Common.{◌≡◌, ℕ, Option, Some, None, refl, ◌∙◌}
use Rattle.std.specs.Prelude.{IfSome}
use Rattle.strided_rules.specs.Strides.{Stride, IsStride}
use Rattle.strided_rules.specs.Domains.{divisor}
use Rattle.interval_congruence.specs.Operands.{IsSized}
use Rattle.interval_congruence.specs.Divisors.{IsDivisor}
use Rattle.interval_congruence.proofs.Divisors.{divisor_some}

pub divisor_divides : (b : Stride) → IsStride b → IfSome (divisor b) IsDivisor
divisor_divides b stride = go (divisor b) refl
  where
    go : (o : Option Stride) → divisor b ≡ o → IfSome o IsDivisor
    go None e = tt
    go (Some d) e = divisor_some b d stride e

-- a value of the same size is sized so too
pub sized_alike : (o : Option ℕ) (x y : Stride) → y.size ≡ x.size → IsSized o x → IsSized o y
sized_alike None x y e h = tt
sized_alike (Some s) x y e h = e ∙ h
