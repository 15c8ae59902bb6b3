-- The parts of an abstract value that code keeps.
--   alternative_of part    the part as an alternative
--   parts_of parts         the parts as alternatives
--   outcome_of answer      the value, if there is one, and the faults as an outcome
--   AreWords args words    each value is of words alone, and these are they
--   AreAbstract args       each is an abstract value
--   lower places frame     how many places stand before the frame
--   SuitsRule op numbers a b   the words that the operator gives, and its last operands, suit its rule for pointers
use Rattle.std.specs.Prelude.{◌≡◌, ℕ, zero, suc, List, [], ◌∷◌, Option, Vec, IfSome, map, nat_lt, if◌then◌else◌}
use Rattle.std.specs.declared.alloc.Global.{Global}
use Rattle.alf_ops.specs.declared.operator.Op.{Op}
use Rattle.alf_ops.specs.declared.operator.Op.TheVariants.{Add, Sub, If}
use Rattle.domain_core.specs.declared.fault_set.FaultSet.{FaultSet}
use Rattle.strided_rules.specs.Strides.{Stride}
use Rattle.pointer_rules.specs.AbstractValues.{AbstractValue, Alternative, Words, Places, IsAbstract, AreAlike, alone}
use Rattle.pointer_rules.specs.Choices.{Outcome}
use Rattle.pointer_domain.specs.declared.part.Part.{Part}
use Rattle.pointer_domain.specs.declared.part.Part.TheVariants.{Int, At}

-- the part as an alternative
abbrev pub alternative_of : Part → Alternative
alternative_of (Int words) = Words words
alternative_of (At frame offsets) = Places frame offsets

-- the parts as alternatives
abbrev pub parts_of : Vec Part Global → List Alternative
parts_of parts = map alternative_of parts.items

-- the value, if there is one, and the faults as an outcome
abbrev pub outcome_of : Option AbstractValue × FaultSet → Outcome
outcome_of answer = record { value = answer.0; faults = answer.1 }

-- each value is of words alone, and these are they
abbrev pub AreWords : List AbstractValue → List Stride → Type 0
AreWords [] [] = Unit {0}
AreWords [] (x ∷ words) = ⊥
AreWords (v ∷ args) [] = ⊥
AreWords (v ∷ args) (x ∷ words) = (v ≡ alone (Words x)) × AreWords args words

-- each is an abstract value
abbrev pub AreAbstract : List AbstractValue → Type 0
AreAbstract [] = Unit {0}
AreAbstract (v ∷ args) = IsAbstract v × AreAbstract args

-- how many places stand before the frame
abbrev pub lower : List (ℕ × Stride) → ℕ → ℕ
lower [] frame = zero
lower (place ∷ places) frame = if nat_lt place.0 frame then suc (lower places frame) else zero

-- the words that the operator gives, and its last operands, suit its rule for pointers
abbrev pub SuitsRule : Op → Option Stride → Alternative → Alternative → Type 0
SuitsRule Add numbers a b = IfSome numbers (λ d. d.size ≡ 32)
SuitsRule Sub numbers a b = IfSome numbers (λ d. d.size ≡ 32)
SuitsRule If numbers a b = AreAlike (alone a) (alone b)
SuitsRule _ numbers a b = Unit {0}
