-- What an unsigned order leaves, of equal numbers.
--   below_cut       the members below the greatest of the other
--   at_most_cut     the members up to it
use Rattle.std.proofs.Common.{◌≡◌, ℤ, pos, Option, refl}
use Rattle.std.specs.Prelude.{◌-ℤ◌}
use Rattle.domain_core.specs.declared.relation.Rel.{Rel}
use Rattle.domain_core.specs.declared.relation.Rel.TheVariants.{ULt, ULe}
use Rattle.strided_rules.specs.Strides.{Stride}
use Rattle.strided_rules.specs.Members.{unsigned_between, unsigned_greatest, assumed}

pub below_cut : (rel : Rel) (x y : Stride) (zero one greatest n : ℤ) (r : Option Stride) → rel ≡ ULt → zero ≡ pos 0
    → one ≡ pos 1 → greatest ≡ unsigned_greatest y → n ≡ (greatest -ℤ one)
    → r ≡ unsigned_between x zero n → r ≡ assumed rel x y
below_cut rel x y zero one greatest n r is z o g e h = rw (h, e, g, o, z, is) refl

pub at_most_cut : (rel : Rel) (x y : Stride) (zero n : ℤ) (r : Option Stride) → rel ≡ ULe → zero ≡ pos 0
    → n ≡ unsigned_greatest y → r ≡ unsigned_between x zero n → r ≡ assumed rel x y
at_most_cut rel x y zero n r is z e h = rw (h, e, z, is) refl
