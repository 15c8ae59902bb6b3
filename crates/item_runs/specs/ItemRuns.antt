-- Runs of items, from stretch to stretch.
--   Waiting                 a call that waits: its function, the items after it, and the cell of its result
--   Standing                where a run of items stands: in a function, with the calls that wait, the newest first, and what the stretch ahead does; or at its end
--   ItemProgram             a numbered program, with the items of each function and the numbers of their names
--   tick of standing        what comes after the stretch ahead
--   ticks of t standing     what comes after so many stretches
--   at_start of history     where a run of items starts
use Rattle.std.specs.Prelude.{ℕ, zero, suc, List, [], ◌∷◌, Option, Some, None, Result, Ok, Err}
use Rattle.alf_ops.specs.declared.history.Value.{Value}
use Rattle.alf_ops.specs.declared.history.Value.TheVariants.{Ptr}
use Rattle.alf_ops.specs.declared.history.RunFault.{RunFault}
use Rattle.alf_ops.specs.declared.history.RunEvent.{RunEvent}
use Rattle.alf_ops.specs.declared.history.RunEvent.TheVariants.{Leave}
use Rattle.alf_ops.specs.Histories.{store}
use Rattle.alf_program.specs.Tree.{BodyItem}
use Rattle.alf_check.specs.CheckedPrograms.{NumberedProgram}
use Rattle.alf_check.specs.Numbers.{Numbers}
use Rattle.alf_runs.specs.Entering.{entered}
use Rattle.alf_runs.specs.Outcomes.{Outcome, Ended, Faulted, Lost, outputs}
use Rattle.alf_runs.specs.Steps.{frames_of}
use Rattle.item_runs.specs.Stretches.{End, Falls, Goes, Enters, Leaves, Stops, stretch, items_after}

-- a call that waits
pub record Waiting : Type 0 where
  pub function : ℕ
  pub rest : List BodyItem
  pub result : Option (ℕ × ℕ)

-- where a run of items stands
pub data Standing : Type 0 where
  Run : ℕ → List Waiting → End → Standing
  Done : Outcome → Standing

-- a numbered program, with the items of each function and the numbers of their names
pub record ItemProgram : Type 0 where
  pub program : NumberedProgram
  pub items : ℕ → List BodyItem
  pub numbers : ℕ → Numbers

-- what items of a function do
abbrev pub ahead : ItemProgram → ℕ → List BodyItem → List RunEvent → End
ahead of f items history = stretch (frames_of of.program) (of.numbers f) items history

-- a call goes on with the items after it
abbrev pub resumed : ItemProgram → Waiting → List Waiting → Result (List RunEvent) RunFault → Standing
resumed of waiting stack (Ok history) = Run waiting.function stack (ahead of waiting.function waiting.rest history)
resumed of waiting stack (Err fault) = Done (Faulted fault)

-- its result is stored where it wants it
abbrev pub result_stored : ItemProgram → Waiting → List Waiting → Option (ℕ × ℕ) → Option Value → List RunEvent
    → Standing
result_stored of waiting stack (Some to) (Some value) history = resumed of waiting stack (store (frames_of of.program) history (Ptr to.0 to.1) value)
result_stored of waiting stack None None history = resumed of waiting stack (Ok history)
result_stored of waiting stack (Some to) None history = Done Lost
result_stored of waiting stack None (Some value) history = Done Lost

-- a function was left: the newest call goes on, or the run is at its end
abbrev pub back : ItemProgram → List Waiting → Option Value → List RunEvent → Standing
back of [] value history = Done (Ended (outputs of.program value history))
back of (waiting ∷ stack) value history = result_stored of waiting stack waiting.result value history

-- what comes after a stretch that ends so
abbrev pub after_end : ItemProgram → ℕ → List Waiting → End → Standing
after_end of f stack (Falls history) = Done Lost
after_end of f stack (Goes label history) = Run f stack (ahead of f (items_after label (of.items f)) history)
after_end of f stack (Enters g values result rest history) =
    Run g (record { function = f; rest = rest; result = result } ∷ stack) (ahead of g (of.items g) (entered of.program g values history))
after_end of f stack (Leaves value history) = back of stack value (Leave f ∷ history)
after_end of f stack (Stops fault) = Done (Faulted fault)

-- what comes after the stretch ahead; at its end a run stays
abbrev pub tick : ItemProgram → Standing → Standing
tick of (Run f stack end) = after_end of f stack end
tick of (Done outcome) = Done outcome

-- what comes after so many stretches
abbrev pub ticks : ItemProgram → ℕ → Standing → Standing
ticks of zero standing = standing
ticks of (suc t) standing = ticks of t (tick of standing)

-- where a run of items starts: at the root's items
abbrev pub at_start : ItemProgram → List RunEvent → Standing
at_start of history = Run of.program.root [] (ahead of of.program.root (of.items of.program.root) history)
