-- What an operator gives at abstract values: one alternative is chosen for each operand, in every way.
--   Outcome                 the value, if there is one, and the faults
--   at_words op sizes args  what it gives at words
--   moved frame numbers     a pointer to the frame
--   sum, difference, equality, order, choice    the rules that take pointers
--   by_rule op sizes a b c  what it gives where an operand is a pointer: without a rule it is the fault kind
--   at_choice op sizes args what it gives at one alternative for each operand
--   choices operands        every choice of one alternative for each operand, the first operand slowest
--   gathered before outs    values joined from the left, faults united
--   applied op sizes args   what it gives at abstract values
use Rattle.std.specs.Prelude.{ℕ, Bool, true, false, List, [], ◌∷◌, ◌++◌, map, Option, Some, None, ◌==◌, ◌||◌, if◌then◌else◌, slice_index_or}
use Rattle.alf_ops.specs.declared.operator.Op.{Op}
use Rattle.alf_ops.specs.declared.operator.Op.TheVariants.{Add, Sub, Eq, Neq, ULt, ULe, UGt, UGe, If}
use Rattle.alf_ops.specs.declared.history.RunFault.{RunFault}
use Rattle.alf_ops.specs.declared.history.RunFault.TheVariants.{Divide, Kind, Pointers}
use Rattle.domain_core.specs.declared.applied.Applied.{Applied}
use Rattle.domain_core.specs.declared.fault_set.FaultSet.{FaultSet}
use Rattle.domain_core.specs.FaultSets.{no_faults, with_fault, either}
use Rattle.strided_rules.specs.Strides.{Stride, one_word}
use Rattle.strided_rules.specs.Members.{has}
use Rattle.strided_rules.specs.Domains.{applied as applied_words}
use Rattle.pointer_rules.specs.AbstractValues.{AbstractValue, Alternative, Words, Places, numbers_of, alternatives, alone, joined}

pub record Outcome : Type 0 where
  pub value : Option AbstractValue
  pub faults : FaultSet

-- this value and no fault
abbrev pub gives : AbstractValue → Outcome
gives v = record { value = Some v; faults = no_faults }

-- this fault and no value
abbrev pub tells : RunFault → Outcome
tells fault = record { value = None; faults = with_fault no_faults fault }

-- ---- words

abbrev pub only_words : Option Stride → Option AbstractValue
only_words None = None
only_words (Some words) = Some (alone (Words words))

abbrev pub divided : Bool → FaultSet
divided divides = if divides then with_fault no_faults Divide else no_faults

abbrev pub words_outcome : Applied Stride → Outcome
words_outcome answer = record { value = only_words answer.value; faults = divided answer.divide }

-- what it gives at words
abbrev pub at_words : Op → List ℕ → List Alternative → Outcome
at_words op sizes args = words_outcome (applied_words op sizes (map numbers_of args))

-- ---- pointers

abbrev pub is_place : Alternative → Bool
is_place (Words words) = false
is_place (Places frame offsets) = true

-- the words that the operator gives at the words and offsets
abbrev pub numbers : Op → List ℕ → List Alternative → Option Stride
numbers op sizes args = (applied_words op sizes (map numbers_of args)).value

abbrev pub only_places : ℕ → Option Stride → Option AbstractValue
only_places frame None = None
only_places frame (Some offsets) = Some (alone (Places frame offsets))

-- a pointer to the frame, and a word
abbrev pub pointer : ℕ → Option Stride → Outcome
pointer frame offsets = record { value = only_places frame offsets; faults = no_faults }

abbrev pub word : Option Stride → Outcome
word words = record { value = only_words words; faults = no_faults }

-- a pointer and a word, in either order, give a pointer to the same frame
abbrev pub sum : Option Stride → Alternative → Alternative → Outcome
sum result (Places frame offsets) (Words words) = pointer frame result
sum result (Words words) (Places frame offsets) = pointer frame result
sum result (Places frame offsets) (Places other places) = tells Kind
sum result (Words words) (Words others) = tells Kind

-- a pointer less a word is a pointer to the same frame, and two pointers to one frame give the words between them
abbrev pub difference : Option Stride → Alternative → Alternative → Outcome
difference result (Places frame offsets) (Words words) = pointer frame result
difference result (Places frame offsets) (Places other places) = if frame == other then word result else tells Pointers
difference result (Words words) b = tells Kind

-- two pointers to one frame compare offsets, and to different frames they are unequal
abbrev pub equality : ℕ → Option Stride → Alternative → Alternative → Outcome
equality unequal result (Places frame offsets) (Places other places) = if frame == other then word result else word (Some (one_word 1 unequal))
equality unequal result (Places frame offsets) (Words words) = tells Kind
equality unequal result (Words words) b = tells Kind

-- two pointers to one frame compare offsets
abbrev pub order : Option Stride → Alternative → Alternative → Outcome
order result (Places frame offsets) (Places other places) = if frame == other then word result else tells Pointers
order result (Places frame offsets) (Words words) = tells Kind
order result (Words words) b = tells Kind

-- either value may be a pointer, the bit may not
abbrev pub choice : Alternative → Alternative → Alternative → Outcome
choice (Words bit) a b = gives (if has bit 1 then (if has bit 0 then joined (alone a) (alone b) else alone a) else alone b)
choice (Places frame offsets) a b = tells Kind

-- what it gives where an operand is a pointer
abbrev pub by_rule : Op → Option Stride → Alternative → Alternative → Alternative → Outcome
by_rule Add result a b c = if is_place c then tells Kind else sum result a b
by_rule Sub result a b c = if is_place c then tells Kind else difference result a b
by_rule Eq result a b c = equality 0 result a b
by_rule Neq result a b c = equality 1 result a b
by_rule ULt result a b c = order result a b
by_rule ULe result a b c = order result a b
by_rule UGt result a b c = order result a b
by_rule UGe result a b c = order result a b
by_rule If result a b c = choice a b c
by_rule _ result a b c = tells Kind

-- ---- choices

-- the alternative at this place, or a word where there is none
abbrev pub alternative_at : List Alternative → ℕ → Alternative
alternative_at args place = slice_index_or args place (Words (one_word 1 0))

-- what it gives at one alternative for each operand
abbrev pub at_choice : Op → List ℕ → List Alternative → Outcome
at_choice op sizes args =
    if is_place (alternative_at args 0) || is_place (alternative_at args 1) || is_place (alternative_at args 2)
    then by_rule op (numbers op sizes args) (alternative_at args 0) (alternative_at args 1) (alternative_at args 2)
    else at_words op sizes args

-- this alternative, and then each of the choices
abbrev pub each_after : Alternative → List (List Alternative) → List (List Alternative)
each_after first [] = []
each_after first (others ∷ choices) = (first ∷ others) ∷ each_after first choices

abbrev pub each_first : List Alternative → List (List Alternative) → List (List Alternative)
each_first [] choices = []
each_first (first ∷ firsts) choices = each_after first choices ++ each_first firsts choices

-- every choice of one alternative for each operand, the first operand slowest
abbrev pub choices : List (List Alternative) → List (List Alternative)
choices [] = [] ∷ []
choices (operand ∷ operands) = each_first operand (choices operands)

-- ---- all choices

-- joined where both are there
abbrev pub either_value : Option AbstractValue → Option AbstractValue → Option AbstractValue
either_value None b = b
either_value (Some a) None = Some a
either_value (Some a) (Some b) = Some (joined a b)

abbrev pub united : Outcome → Outcome → Outcome
united a b = record { value = either_value a.value b.value; faults = either a.faults b.faults }

-- values joined from the left, faults united
abbrev pub gathered : Outcome → List Outcome → Outcome
gathered before [] = before
gathered before (outcome ∷ outcomes) = gathered (united before outcome) outcomes

abbrev pub nothing : Outcome
nothing = record { value = None; faults = no_faults }

-- what it gives at abstract values
abbrev pub applied : Op → List ℕ → List AbstractValue → Outcome
applied op sizes args = gathered nothing (map (at_choice op sizes) (choices (map alternatives args)))
