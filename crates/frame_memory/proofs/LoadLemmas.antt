-- On the way to the laws of load.
--   onto_sized      the value keeps its size
use Rattle.std.specs.Prelude.{IfSome}
use Rattle.std.proofs.Common.{ℕ, List, [], ◌∷◌, Option, Some, Result, Ok, Err}
use Rattle.alf_ops.specs.declared.history.RunFault.{RunFault}
use Rattle.pointer_rules.specs.AbstractValues.{AbstractValue, joined}
use Rattle.pointer_rules.specs.Covering.{IsValue}
use Rattle.memory_rules.specs.AbstractSets.{abstract_sets}
use Rattle.memory_rules.specs.AbstractSetLaws.{abstract_is_sets}
use Rattle.memory_rules.specs.Frames.{either}
use Rattle.memory_rules.specs.Memories.{joined_values}
use Rattle.memory_rules.specs.Gathered.{EachSized}
use Rattle.memory_rules.specs.AboveLaws.{either_alike}

-- ---- results

-- the value keeps its size
pub onto_sized : (size : ℕ) (value : Option AbstractValue) (results : List (Result AbstractValue RunFault))
    → IfSome value (IsValue size)
    → EachSized abstract_sets size results → IfSome (joined_values abstract_sets value results) (IsValue size)
onto_sized size value [] sized each = sized
onto_sized size value (Ok set ∷ results) sized each =
    onto_sized size (either joined value (Some set)) results
    (either_alike joined (IsValue size) (IsValue size) (λ x y. abstract_is_sets.joined_sized x y size) value (Some set) sized each.0) each.1
onto_sized size value (Err fault ∷ results) sized each = onto_sized size value results sized each
