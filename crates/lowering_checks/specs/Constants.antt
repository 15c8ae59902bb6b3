-- Constants are words of 32 bits.
--   Fits worth      a constant's number is below 2 to 32
use Rattle.std.proofs.Common.{◌<◌, ◌^◌}
use Rattle.std.specs.Prelude.{⊤}
use Rattle.c_tokens.specs.declared.worth.Worth.{Worth}
use Rattle.c_tokens.specs.declared.worth.Worth.TheVariants as worth

abbrev pub Fits : Worth → Type 0
Fits worth.NoConstant = ⊤
Fits worth.TooLarge = ⊤
Fits (worth.Int n) = n < 2 ^ 32
Fits (worth.UnsignedInt n) = n < 2 ^ 32
