-- Runs of small items, to be worked out.
--   CallsAndReturns   a result is stored where the call wants it, and the root goes on
--   JumpsAhead        a jump leads past what stands between
use Rattle.std.specs.Prelude.{◌≡◌, ℕ, List, [], ◌∷◌, Some, None, false, ◌==◌, if◌then◌else◌}
use Rattle.alf_ops.specs.declared.history.Value.TheVariants.{Int}
use Rattle.alf_ops.specs.declared.history.RunFault.TheVariants.{Uninit}
use Rattle.alf_ops.specs.declared.history.RunEvent.TheVariants.{Enter}
use Rattle.alf_check.specs.declared.rows.FrameRow.{FrameRow}
use Rattle.alf_program.specs.Tree.{NamedExpression, Number, Address, Load, Jump, Call, Return, BodyItem, Label, Do}
use Rattle.alf_runs.specs.Outcomes.{Ended, Faulted}
use Rattle.item_runs.specs.ItemRuns.{ItemProgram, Done, ticks, at_start}

-- one global frame of 32 bits, for which each name of a frame stands, and which is exported; each name of a function
-- stands for function 1
abbrev with : List BodyItem → List BodyItem → ItemProgram
with root other =
    let row : FrameRow = record { owner = None; name = []; bits = 32 } in
    record {
      program = record { frames = row ∷ []; funcs = []; inits = []; exports = 0 ∷ []; root = 0 };
      items = λ f. if f == 0 then root else other;
      numbers = λ f. record { frame = λ name. 0; func = λ name. 1; block = λ label. 0 };
    }

abbrev word : ℕ → NamedExpression
word n = Number (record { signed = false; size = 32; bits = n })

abbrev load_x : NamedExpression
load_x = Load 32 (Address (120 ∷ []) 0)

-- the root calls a function, which returns 4; the result is stored, and the root goes on and returns what it loads
abbrev pub CallsAndReturns : Type 0
CallsAndReturns = ticks (with (Do (Call (102 ∷ []) [] (Some (120 ∷ [], 0))) ∷ Do (Return (Some load_x)) ∷ []) (Do (Return (Some (word 4))) ∷ [])) 3
    (at_start (with (Do (Call (102 ∷ []) [] (Some (120 ∷ [], 0))) ∷ Do (Return (Some load_x)) ∷ []) (Do (Return (Some (word 4))) ∷ [])) (Enter 0 ∷ []))
    ≡ Done (Ended (record { returned = Some (Int 32 4); globals = Some (Int 32 4) ∷ [] }))

-- a jump leads past what stands between, and a load of nothing ends the run
abbrev pub JumpsAhead : Type 0
JumpsAhead = ticks (with (Do (Jump (65 ∷ [])) ∷ Do (Return None) ∷ Label (65 ∷ []) ∷ Do (Return (Some load_x)) ∷ []) []) 2
    (at_start (with (Do (Jump (65 ∷ [])) ∷ Do (Return None) ∷ Label (65 ∷ []) ∷ Do (Return (Some load_x)) ∷ []) []) (Enter 0 ∷ []))
    ≡ Done (Faulted Uninit)
