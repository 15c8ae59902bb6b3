-- What statements make of an abstract memory.
--   stored_by rows m at v size      the memory after a store of the value through the address, where some
--       cell is possible
--   stored_through rows m at v      the same at the value's own size
--   after_statement rows s m        the memory after the statement
--   after_statements rows ss m      the memory after the statements in order
use Rattle.std.specs.Prelude.{ℕ, List, [], ◌∷◌, Option, Some, None}
use Rattle.alf_ops.specs.declared.history.FrameShape.{FrameShape}
use Rattle.alf_check.specs.CheckedPrograms.{NumberedStatement, Null, Store}
use Rattle.pointer_rules.specs.AbstractValues.{AbstractValue}
use Rattle.memory_rules.specs.Memories.{Mem}
use Rattle.memory_rules.specs.Addresses.{cells_of, stored_at}
use Rattle.memory_rules.specs.AbstractSets.{abstract_sets}
use Rattle.transfer_rules.specs.Remains.{Remains, all_left, goes_on}
use Rattle.transfer_rules.specs.AddressFaults.{address_faults}
use Rattle.transfer_rules.specs.Evaluating.{width_of, value_at}

-- it is left where some cell is possible
abbrev pub where_possible : {A : Type 0} → List (ℕ × ℕ) → A → Option A
where_possible [] a = None
where_possible (cell ∷ cells) a = Some a

-- the memory after a store of the value through the address
abbrev pub stored_by : List FrameShape → Mem abstract_sets → AbstractValue → AbstractValue → ℕ
    → Remains (Mem abstract_sets)
stored_by rows m at v size = record {
  left = where_possible (cells_of rows m.runs at.places size) (stored_at rows m at size v);
  faults = address_faults rows m.runs at size;
}

abbrev pub stored_through : List FrameShape → Mem abstract_sets → AbstractValue → AbstractValue
    → Remains (Mem abstract_sets)
stored_through rows m at v = stored_by rows m at v (width_of v)

-- the memory after the statement: of a store the address is evaluated first, then the value
abbrev pub after_statement : List FrameShape → NumberedStatement → Mem abstract_sets → Remains (Mem abstract_sets)
after_statement rows Null m = all_left m
after_statement rows (Store to value) m = goes_on (value_at rows m to) (λ at. goes_on (value_at rows m value) (stored_through rows m at))

-- the memory after the statements in order
abbrev pub after_statements : List FrameShape → List NumberedStatement → Mem abstract_sets → Remains (Mem abstract_sets)
after_statements rows [] m = all_left m
after_statements rows (s ∷ ss) m = goes_on (after_statement rows s m) (λ next. after_statements rows ss next)
