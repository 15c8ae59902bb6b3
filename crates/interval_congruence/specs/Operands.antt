-- Operands by their places.
--   IsSized s x      x has this size, if one is wanted
use Rattle.std.specs.Prelude.{◌≡◌, ℕ, Option, Some, None}
use Rattle.strided_rules.specs.Strides.{Stride}

-- x has this size, if one is wanted
abbrev pub IsSized : Option ℕ → Stride → Type 0
IsSized None x = Unit {0}
IsSized (Some s) x = x.size ≡ s
