-- What an outcome of an operator at abstract values says of the outcome at values of a run.
--   SuitsSize size x         the alternative has this size and is in normal form
--   IsOf x value             the value of a run is one of the alternative
--   OnlyOf x value           and the only one
--   EachSuits, EachIsOf, EachOnly   the same of lists
--   IsOutcome size out       the outcome's value, if there is one, has this size
--   Tells out result         the run's value is covered, or its fault told
--   OnlyTells out result     exactly the run's value and no fault, or exactly its fault and no value
use Rattle.std.specs.Prelude.{◌≡◌, ℕ, true, List, None, IfSome, IsSomeAnd, Result, Ok, Err}
use Rattle.std.specs.List.{AllZip}
use Rattle.alf_ops.specs.declared.history.Value.{Value}
use Rattle.alf_ops.specs.declared.history.Value.TheVariants.{Int, Ptr}
use Rattle.alf_ops.specs.declared.history.RunFault.{RunFault}
use Rattle.domain_core.specs.FaultSets.{has_fault, no_faults, with_fault}
use Rattle.domain_core.specs.WordSets.{IsOnly, IsOfSize}
use Rattle.strided_rules.specs.Strides.{Covers as CoversWord}
use Rattle.strided_rules.specs.Domains.{stride_sets}
use Rattle.pointer_rules.specs.AbstractValues.{AbstractValue, Alternative, Words, Places, Covers, OnlyCovers, IsAbstract, HasSize}
use Rattle.pointer_rules.specs.Choices.{Outcome}

-- the alternative has this size and is in normal form
abbrev pub SuitsSize : ℕ → Alternative → Type 0
SuitsSize size (Words words) = IsOfSize stride_sets size words
SuitsSize size (Places frame offsets) = IsOfSize stride_sets size offsets × (size ≡ 32)

-- the value of a run is one of the alternative
abbrev pub IsOf : Alternative → Value → Type 0
IsOf (Words words) (Int size bits) = (words.size ≡ size) × CoversWord words bits
IsOf (Words words) (Ptr frame offset) = ⊥
IsOf (Places frame offsets) (Int size bits) = ⊥
IsOf (Places frame offsets) (Ptr other offset) = (frame ≡ other) × CoversWord offsets offset

-- and the only one
abbrev pub OnlyOf : Alternative → Value → Type 0
OnlyOf (Words words) (Int size bits) = (words.size ≡ size) × IsOnly stride_sets words bits
OnlyOf (Words words) (Ptr frame offset) = ⊥
OnlyOf (Places frame offsets) (Int size bits) = ⊥
OnlyOf (Places frame offsets) (Ptr other offset) = (frame ≡ other) × IsOnly stride_sets offsets offset

abbrev pub EachSuits : List ℕ → List Alternative → Type 0
EachSuits sizes args = AllZip SuitsSize sizes args

abbrev pub EachIsOf : List Alternative → List Value → Type 0
EachIsOf args values = AllZip IsOf args values

abbrev pub EachOnly : List Alternative → List Value → Type 0
EachOnly args values = AllZip OnlyOf args values

-- an abstract value of this size
pub record IsValue (size : ℕ) (v : AbstractValue) : Type 0 where
  pub is : IsAbstract v
  pub sized : HasSize v size

-- the outcome's value, if there is one, has this size
abbrev pub IsOutcome : ℕ → Outcome → Type 0
IsOutcome size out = IfSome out.value (IsValue size)

-- the run's value is covered, or its fault told
abbrev pub Tells : Outcome → Result Value RunFault → Type 0
Tells out (Ok value) = IsSomeAnd out.value (λ v. Covers v value)
Tells out (Err fault) = has_fault out.faults fault ≡ true

-- exactly the run's value and no fault, or exactly its fault and no value
abbrev pub OnlyTells : Outcome → Result Value RunFault → Type 0
OnlyTells out (Ok value) = IsSomeAnd out.value (λ v. OnlyCovers v value) × (out.faults ≡ no_faults)
OnlyTells out (Err fault) = (out.value ≡ None) × (out.faults ≡ with_fault no_faults fault)
