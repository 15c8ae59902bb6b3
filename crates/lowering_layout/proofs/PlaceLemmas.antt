-- Laws of places.
use Rattle.std.proofs.Common.{◌≡◌, suc, List, [], ◌∷◌, length, refl, ap}
use Rattle.c_meaning.specs.Objects.{Object, Program}
use Rattle.c_lowered.specs.Names.{names_from}

-- ---- objects by their tokens

module _ (program : Program) where
  names_count : (seen os : List Object) → length (names_from program seen os) ≡ length os
  names_count seen [] = refl
  names_count seen (o ∷ os) = ap suc (names_count (o ∷ seen) os)
