-- Sides of comparisons.
--   loaded_value rows m size at   what a load gives through the address, if there is one
--   at_one op sizes v             what an operator gives at one operand, if this has a value
--   IsSide rows m e side          the words of the expression without a pointer, and the place that it is
--   SideFits rows size side       they have this size, and the place is one of it
use Rattle.std.specs.Prelude.{◌≡◌, ℕ, List, [], ◌∷◌, Option, Some, None, IfSome}
use Rattle.std.specs.Option.{option_map}
use Rattle.alf_ops.specs.declared.operator.Op.{Op}
use Rattle.alf_ops.specs.declared.history.FrameShape.{FrameShape}
use Rattle.alf_program.specs.Tree.{NumberedExpression}
use Rattle.pointer_rules.specs.AbstractValues.{AbstractValue}
use Rattle.pointer_rules.specs.Choices.{applied}
use Rattle.memory_rules.specs.Memories.{Mem}
use Rattle.memory_rules.specs.AbstractSets.{abstract_sets}
use Rattle.transfer_rules.specs.Evaluating.{loaded, value_at}
use Rattle.transfer_rules.specs.Refining.{place_of, words_alone}
use Rattle.branch_refinement.specs.declared.refinements.Side.{Side}
use Rattle.branch_refinement.specs.Places.{seen_place, PinFits}

-- what a load gives through the address, if there is one
abbrev pub loaded_value : List FrameShape → Mem abstract_sets → ℕ → Option AbstractValue → Option AbstractValue
loaded_value rows m size None = None
loaded_value rows m size (Some at) = (loaded rows m size at).left

-- what an operator gives at one operand, if this has a value
abbrev pub at_one : Op → List ℕ → Option AbstractValue → Option AbstractValue
at_one op sizes None = None
at_one op sizes (Some v) = (applied op sizes (v ∷ [])).value

-- the words of the expression without a pointer, and the place that it is
pub record IsSide (rows : List FrameShape) (m : Mem abstract_sets) (e : NumberedExpression) (side : Side) : Type 0 where
  pub words : side.words ≡ words_alone (value_at rows m e).left
  pub place : option_map seen_place side.place ≡ place_of rows m e

-- they have this size, and the place is one of it
pub record SideFits (rows : List FrameShape) (size : ℕ) (side : Side) : Type 0 where
  pub words : IfSome side.words (λ words. words.size ≡ size)
  pub place : IfSome side.place (PinFits rows size)
