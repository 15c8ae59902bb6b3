-- Types of parameters.
--   next_of params    the type of the next parameter, if there is one
--   others_of params  the types after it
use Rattle.std.specs.Prelude.{List, [], ◌∷◌, Option, Some, None}
use Rattle.c_unit.specs.declared.types.Scalar.{Scalar}

abbrev pub next_of : List Scalar → Option Scalar
next_of [] = None
next_of (p ∷ ps) = Some p

abbrev pub others_of : List Scalar → List Scalar
others_of [] = []
others_of (p ∷ ps) = ps
