-- Sizes of arrays.
--   array_fits   32 bits have the bits of at most 8192 elements
use Rattle.std.proofs.Common.{◌<◌, ◌≤◌, ◌*◌, ℕ, arith}
use Rattle.c_unit.specs.declared.types.Integer.{Integer}
use Rattle.c_unit.specs.declared.types.Integer.TheVariants.{Char, UnsignedChar, Short, UnsignedShort, Int, UnsignedInt}
use Rattle.c_meaning.specs.Values.{bits_of_type}

pub array_fits : (kind : Integer) (count : ℕ) → count ≤ 8192 → count * bits_of_type kind < 4294967296
array_fits Char count few = omega arith
array_fits UnsignedChar count few = omega arith
array_fits Short count few = omega arith
array_fits UnsignedShort count few = omega arith
array_fits Int count few = omega arith
array_fits UnsignedInt count few = omega arith
