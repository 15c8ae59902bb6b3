-- An abstract memory that stands for a history, and what an abstract value tells of a run's value.
--   Stands Sharp rows m history     the memory covers the history, and where Sharp holds it is sharp for it
--   ValueTold Sharp v value         the value is covered, and where Sharp holds it alone is
--   AllTold Sharp vs values         the same of values in a row
use Rattle.std.specs.Prelude.{List}
use Rattle.std.specs.List.{AllZip}
use Rattle.alf_ops.specs.declared.history.Value.{Value}
use Rattle.alf_ops.specs.declared.history.FrameShape.{FrameShape}
use Rattle.alf_ops.specs.declared.history.RunEvent.{RunEvent}
use Rattle.alf_ops.specs.Histories.{IsSoundHistory}
use Rattle.pointer_rules.specs.AbstractValues.{AbstractValue, Covers}
use Rattle.memory_rules.specs.ValueSets.{OnlyCovers}
use Rattle.memory_rules.specs.Memories.{Mem, MemCovers, MemSharp, MemSized}
use Rattle.memory_rules.specs.AbstractSets.{abstract_sets}

-- the memory covers the history, and where Sharp holds it is sharp for it
pub record Stands (Sharp : Type 0) (rows : List FrameShape) (m : Mem abstract_sets)
    (history : List RunEvent) : Type 0 where
  pub sound : IsSoundHistory history
  pub sized : MemSized abstract_sets m
  pub covers : MemCovers abstract_sets rows m history
  pub sharp : Sharp → MemSharp abstract_sets rows m history

-- the value is covered, and where Sharp holds it alone is
pub record ValueTold (Sharp : Type 0) (v : AbstractValue) (value : Value) : Type 0 where
  pub covers : Covers v value
  pub only : Sharp → OnlyCovers abstract_sets v value

-- the same of values in a row
abbrev pub AllTold : Type 0 → List AbstractValue → List Value → Type 0
AllTold Sharp vs values = AllZip (ValueTold Sharp) vs values
