-- What loads give, joined onto what was loaded before.
--   with_faults set faults   the set and these faults
--   onto before results      the value and the faults of results, after those of before
--   told told fault          the fault alone, if it is told
--   word_in words            the concatenation of the words of bytes, if each byte has words
--   words_of word            these words as a value, if there are some
--   HaveSize a b             the values that there are have one size
use Rattle.std.specs.Prelude.{ℕ, Bool, List, [], ◌∷◌, Option, Some, None, Result, Err, IfSome, if◌then◌else◌}
use Rattle.alf_ops.specs.declared.history.RunFault.{RunFault}
use Rattle.domain_core.specs.declared.fault_set.FaultSet.{FaultSet}
use Rattle.domain_core.specs.FaultSets.{with_fault}
use Rattle.strided_rules.specs.Strides.{Stride}
use Rattle.pointer_rules.specs.AbstractValues.{AbstractValue, Words, alone}
use Rattle.pointer_rules.specs.Covering.{IsValue}
use Rattle.memory_rules.specs.Frames.{concatenated}
use Rattle.memory_rules.specs.Memories.{joined_values, faults_of}
use Rattle.memory_rules.specs.AbstractSets.{abstract_sets}
use Rattle.frame_memory.specs.declared.loaded.Loaded.{Loaded}

-- the set and these faults
abbrev pub with_faults : FaultSet → List RunFault → FaultSet
with_faults set [] = set
with_faults set (fault ∷ faults) = with_faults (with_fault set fault) faults

-- the values joined from the left, and the faults
abbrev pub onto : Loaded → List (Result AbstractValue RunFault) → Loaded
onto before results = record {
  value = joined_values abstract_sets before.value results;
  faults = with_faults before.faults (faults_of abstract_sets results);
}

-- the fault alone, if it is told
abbrev pub told : Bool → RunFault → List (Result AbstractValue RunFault)
told is_told fault = if is_told then Err fault ∷ [] else []

-- the concatenation of the words of bytes
abbrev pub word_in : Option (List Stride) → Option Stride
word_in None = None
word_in (Some words) = concatenated abstract_sets words

-- these words as a value
abbrev pub words_of : Option Stride → Option AbstractValue
words_of None = None
words_of (Some word) = Some (alone (Words word))

-- the values that there are have one size
pub record HaveSize (a b : Option AbstractValue) : Type 0 where
  pub size : ℕ
  pub first : IfSome a (IsValue size)
  pub second : IfSome b (IsValue size)
