-- The last of some facts.
use Rattle.std.proofs.Common.{◌≡◌, ◌-◌, suc, List, [], ◌∷◌, length, Option, Some, None, refl, sym, ◌∙◌, arith}
use Rattle.std.specs.Prelude.{slice_get}
use Rattle.flow_facts.specs.declared.fact.Fact.{Fact}
use Rattle.fact_text.specs.Grammar.{or_last, last_of}

other_first : (f g : Fact) (o : Option Fact) → or_last f (or_last g o) ≡ or_last g o
other_first f g None = refl
other_first f g (Some h) = refl

pub last_is : (fs : List Fact) → slice_get fs (length fs - 1) ≡ last_of fs
last_is [] = refl
last_is (f ∷ []) = refl
last_is (f ∷ g ∷ gs) =
    let e : length (f ∷ g ∷ gs) - 1 ≡ suc (length (g ∷ gs) - 1) = omega arith in
    rw e (last_is (g ∷ gs) ∙ sym (other_first f g (last_of gs)))
