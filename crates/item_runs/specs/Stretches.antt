-- What a stretch of a function's items does, up to the first that goes elsewhere.
--   End                    how a stretch ends: it falls off the items, goes to a label, enters a function, leaves its own, or stops with a fault
--   stretch frames numbers items history   what the items do in their order; labels do nothing
--   items_after label items   the items after the first place of a label
--   IsNamed items label    a jump or a switch among the items names the label
--   GoesToNamed            a stretch goes to labels alone that its items name
-- The table of frames is that of values, and the numbers tell what each name of the function stands for.
use Rattle.std.specs.Prelude.{◌≡◌, ◌⊎◌, Contains, ℕ, List, [], ◌∷◌, map, ◌==◌, if◌then◌else◌, Option, Some, None, Result, Ok, Err}
use Rattle.std.specs.Option.{option_map}
use Rattle.alf_ops.specs.declared.history.Value.{Value}
use Rattle.alf_ops.specs.declared.history.Value.TheVariants.{Int, Ptr}
use Rattle.alf_ops.specs.declared.history.RunFault.{RunFault}
use Rattle.alf_ops.specs.declared.history.RunFault.TheVariants.{Kind}
use Rattle.alf_ops.specs.declared.history.FrameShape.{FrameShape}
use Rattle.alf_ops.specs.declared.history.RunEvent.{RunEvent}
use Rattle.alf_ops.specs.Pointers.{operands}
use Rattle.alf_program.specs.declared.program.Num.{Num}
use Rattle.alf_program.specs.Tree.{Null, Store, Jump, Switch, Call, Return, BodyItem, Label, Do, with_frames}
use Rattle.alf_faults.specs.Places.{is_label_named}
use Rattle.alf_check.specs.Numbers.{Numbers}
use Rattle.alf_runs.specs.Expressions.{value_of}
use Rattle.alf_runs.specs.Statements.{after_store}

-- how a stretch ends
pub data End : Type 0 where
  Falls : List RunEvent → End
  Goes : List ℕ → List RunEvent → End
  -- a function with the values of its arguments, the cell of its result, and the items after the call
  Enters : ℕ → List Value → Option (ℕ × ℕ) → List BodyItem → List RunEvent → End
  Leaves : Option Value → List RunEvent → End
  Stops : RunFault → End

-- the label of the first target of this word, else that of every other word
abbrev pub label_for : List (Num × List ℕ) → List ℕ → ℕ → List ℕ
label_for [] others word = others
label_for (target ∷ targets) others word = if target.0.bits == word then target.1 else label_for targets others word

-- what comes after a store, or its fault
abbrev pub stored_then : Result (List RunEvent) RunFault → (List RunEvent → End) → End
stored_then (Ok history) go = go history
stored_then (Err fault) go = Stops fault

-- a switch goes to a label by its word; a pointer is the fault kind
abbrev pub switched : List (Num × List ℕ) → List ℕ → List RunEvent → Result Value RunFault → End
switched targets others history (Ok (Int size word)) = Goes (label_for targets others word) history
switched targets others history (Ok (Ptr frame offset)) = Stops Kind
switched targets others history (Err fault) = Stops fault

abbrev pub called : ℕ → Option (ℕ × ℕ) → List BodyItem → List RunEvent → Result (List Value) RunFault → End
called f result rest history (Ok values) = Enters f values result rest history
called f result rest history (Err fault) = Stops fault

abbrev pub returned : List RunEvent → Result Value RunFault → End
returned history (Ok value) = Leaves (Some value) history
returned history (Err fault) = Stops fault

-- the cell of a result, with the number of its frame
abbrev pub numbered_result : Numbers → Option (List ℕ × ℕ) → Option (ℕ × ℕ)
numbered_result numbers result = option_map (λ at. (numbers.frame at.0, at.1)) result

-- what the items do in their order
abbrev pub stretch : List FrameShape → Numbers → List BodyItem → List RunEvent → End
stretch frames numbers [] history = Falls history
stretch frames numbers (Label label ∷ items) history = stretch frames numbers items history
stretch frames numbers (Do Null ∷ items) history = stretch frames numbers items history
stretch frames numbers (Do (Store to value) ∷ items) history =
    stored_then (after_store frames history (value_of frames history (with_frames numbers.frame to)) (value_of frames history (with_frames numbers.frame value)))
    (λ later. stretch frames numbers items later)
stretch frames numbers (Do (Jump label) ∷ items) history = Goes label history
stretch frames numbers (Do (Switch value targets others) ∷ items) history = switched targets others history (value_of frames history (with_frames numbers.frame value))
stretch frames numbers (Do (Call label args result) ∷ items) history =
    called (numbers.func label) (numbered_result numbers result) items history (operands (map (value_of frames history) (map (with_frames numbers.frame) args)))
stretch frames numbers (Do (Return None) ∷ items) history = Leaves None history
stretch frames numbers (Do (Return (Some value)) ∷ items) history = returned history (value_of frames history (with_frames numbers.frame value))

-- the items after the first place of a label
abbrev pub items_after : List ℕ → List BodyItem → List BodyItem
items_after label [] = []
items_after label (item ∷ items) = if is_label_named label item then items else items_after label items

-- the item is a jump or a switch that names the label
abbrev pub Names : BodyItem → List ℕ → Type 0
Names (Label own) label = ⊥
Names (Do Null) label = ⊥
Names (Do (Store to value)) label = ⊥
Names (Do (Jump to)) label = to ≡ label
Names (Do (Switch value targets others)) label = (others ≡ label) ⊎ Contains (map (λ (target : Num × List ℕ). target.1) targets) label
Names (Do (Call func args result)) label = ⊥
Names (Do (Return value)) label = ⊥

-- a jump or a switch among the items names the label
abbrev pub IsNamed : List BodyItem → List ℕ → Type 0
IsNamed [] label = ⊥
IsNamed (item ∷ items) label = Names item label ⊎ IsNamed items label

-- a stretch goes to labels alone that its items name
abbrev pub GoesToNamed : Type 0
GoesToNamed = (frames : List FrameShape) (numbers : Numbers) (items : List BodyItem) (history later : List RunEvent) (label : List ℕ)
    → stretch frames numbers items history ≡ Goes label later
    → IsNamed items label
