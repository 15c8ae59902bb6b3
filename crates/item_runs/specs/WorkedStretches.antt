-- Stretches of small items, to be worked out.
--   StoresAndJumps   a label does nothing, a store is made, and a jump leads to its label
--   EntersCalls      a call has the items after it ahead
--   StopsAtNothing, StopsAtPointer   a load of nothing stops the stretch, and so does a switch on a pointer
--   FirstPlace       of two places of a label the first counts
use Rattle.std.specs.Prelude.{◌≡◌, ℕ, List, [], ◌∷◌, Some, None, false}
use Rattle.alf_ops.specs.declared.history.Value.TheVariants.{Int}
use Rattle.alf_ops.specs.declared.history.RunFault.TheVariants.{Kind, Uninit}
use Rattle.alf_ops.specs.declared.history.FrameShape.{FrameShape}
use Rattle.alf_ops.specs.declared.history.RunEvent.TheVariants as events
use Rattle.alf_program.specs.Tree.{NamedExpression, Number, Address, Load, Store, Jump, Switch, Call, Return, Label, Do}
use Rattle.alf_check.specs.Numbers.{Numbers}
use Rattle.item_runs.specs.Stretches.{Goes, Enters, Stops, stretch, items_after}

-- one global frame of 32 bits, for which each name of a frame stands; each function has number 3
abbrev frames : List FrameShape
frames = record { owner = None; bits = 32 } ∷ []

abbrev numbers : Numbers
numbers = record { frame = λ name. 0; func = λ name. 3; block = λ name. 0 }

abbrev word : ℕ → NamedExpression
word n = Number (record { signed = false; size = 32; bits = n })

abbrev x_at : NamedExpression
x_at = Address (120 ∷ []) 0

-- a label does nothing, a store is made, and a jump leads to its label
abbrev pub StoresAndJumps : Type 0
StoresAndJumps = stretch frames numbers (Label (65 ∷ []) ∷ Do (Store x_at (word 5)) ∷ Do (Jump (66 ∷ [])) ∷ Do (Return None) ∷ []) []
    ≡ Goes (66 ∷ []) (events.Store 0 0 32 (Int 32 5) ∷ [])

-- a call has the items after it ahead
abbrev pub EntersCalls : Type 0
EntersCalls = stretch frames numbers (Do (Call (102 ∷ []) (word 4 ∷ []) (Some (120 ∷ [], 0))) ∷ Do (Return None) ∷ []) []
    ≡ Enters 3 (Int 32 4 ∷ []) (Some (0, 0)) (Do (Return None) ∷ []) []

-- a load of nothing stops the stretch, and so does a switch on a pointer
abbrev pub StopsAtNothing : Type 0
StopsAtNothing = stretch frames numbers (Do (Store x_at (Load 32 x_at)) ∷ Do (Return None) ∷ []) [] ≡ Stops Uninit

abbrev pub StopsAtPointer : Type 0
StopsAtPointer = stretch frames numbers (Do (Switch x_at [] (65 ∷ [])) ∷ []) [] ≡ Stops Kind

-- of two places of a label the first counts
abbrev pub FirstPlace : Type 0
FirstPlace = items_after (65 ∷ []) (Do (Return None) ∷ Label (65 ∷ []) ∷ Do (Jump (66 ∷ [])) ∷ Label (65 ∷ []) ∷ []) ≡ Do (Jump (66 ∷ [])) ∷ Label (65 ∷ []) ∷ []
