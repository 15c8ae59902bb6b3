-- What expressions give over an abstract memory.
--   width_of v              the size of an abstract value
--   loaded rows m size at   what a load through the address gives
--   operated op sizes vs    what an operator gives
--   value_at rows m e       what the expression gives
--   values_at rows m es     what operands give, from left to right; after one without a value nothing is
--       evaluated
--   arguments_at rows m es  the same of the arguments of a call
use Rattle.std.specs.Prelude.{ℕ, List, [], ◌∷◌, Option, Some, None}
use Rattle.alf_ops.specs.declared.operator.Op.{Op}
use Rattle.alf_ops.specs.declared.history.FrameShape.{FrameShape}
use Rattle.alf_program.specs.Tree.{NumberedExpression, NumberedExpressions, Number, Address, Load, Apply, Empty, With}
use Rattle.domain_core.specs.FaultSets.{either}
use Rattle.strided_rules.specs.Strides.{Stride, one_word}
use Rattle.pointer_rules.specs.AbstractValues.{AbstractValue, Words, Places, alone}
use Rattle.pointer_rules.specs.Choices.{Outcome, applied}
use Rattle.memory_rules.specs.Memories.{Mem, joined_values, faults_of}
use Rattle.memory_rules.specs.Addresses.{load_at}
use Rattle.memory_rules.specs.AbstractSets.{abstract_sets}
use Rattle.transfer_rules.specs.Remains.{Remains, all_left, goes_on}
use Rattle.transfer_rules.specs.AddressFaults.{fault_set, address_faults}

abbrev pub words_width : Option Stride → ℕ
words_width None = 32
words_width (Some words) = words.size

-- the size of an abstract value
abbrev pub width_of : AbstractValue → ℕ
width_of v = words_width v.words

-- a word, and a pointer
abbrev pub word_value : ℕ → ℕ → AbstractValue
word_value size bits = alone (Words (one_word size bits))

abbrev pub pointer_value : ℕ → ℕ → AbstractValue
pointer_value frame offset = alone (Places frame (one_word 32 offset))

-- what a load through the address gives
abbrev pub loaded : List FrameShape → Mem abstract_sets → ℕ → AbstractValue → Remains AbstractValue
loaded rows m size at = record {
  left = joined_values abstract_sets None (load_at rows m at size);
  faults = either (address_faults rows m.runs at size) (fault_set (faults_of abstract_sets (load_at rows m at size)));
}

abbrev pub remains_of : Outcome → Remains AbstractValue
remains_of out = record { left = out.value; faults = out.faults }

-- what an operator gives
abbrev pub operated : Op → List ℕ → List AbstractValue → Remains AbstractValue
operated op sizes vs = remains_of (applied op sizes vs)

-- a value before those of the rest
abbrev pub before : Remains (List AbstractValue) → AbstractValue → Remains (List AbstractValue)
before rest v = goes_on rest (λ vs. all_left (v ∷ vs))

abbrev mutual
  -- what the expression gives
  pub value_at : List FrameShape → Mem abstract_sets → NumberedExpression → Remains AbstractValue
  value_at rows m (Number num) = all_left (word_value num.size num.bits)
  value_at rows m (Address frame offset) = all_left (pointer_value frame offset)
  value_at rows m (Load size at) = goes_on (value_at rows m at) (loaded rows m size)
  value_at rows m (Apply op sizes es) = goes_on (values_at rows m es) (operated op sizes)

  pub values_at : List FrameShape → Mem abstract_sets → NumberedExpressions → Remains (List AbstractValue)
  values_at rows m Empty = all_left []
  values_at rows m (With e es) = goes_on (value_at rows m e) (before (values_at rows m es))

-- the same of the arguments of a call
abbrev pub arguments_at : List FrameShape → Mem abstract_sets → List NumberedExpression → Remains (List AbstractValue)
arguments_at rows m [] = all_left []
arguments_at rows m (e ∷ es) = goes_on (value_at rows m e) (before (arguments_at rows m es))
