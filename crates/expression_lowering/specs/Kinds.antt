-- Types of expressions where one is wanted.
--   kind_or_int t   the type, or `int` where there is none
use Rattle.std.specs.Prelude.{Option}
use Rattle.std.specs.Option.{option_map_or}
use Rattle.c_unit.specs.declared.types.Integer.TheVariants.{Int}
use Rattle.c_unit.specs.declared.types.Scalar.{Scalar}
use Rattle.c_unit.specs.declared.types.Scalar.TheVariants as scalars

abbrev pub kind_or_int : Option Scalar → Scalar
kind_or_int t = option_map_or (λ k. k) t (scalars.Integer Int)
