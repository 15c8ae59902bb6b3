-- What a part of a step does to a memory, whatever history it stands for.
--   Remembers memory           it stands for some history
--   Reaches memory due         what is due is a history, for which it stands
--   IsFaultOf due fault        what is due is this fault; a want of memory tells nothing
--   Does memory due result     the part is done, and the memory stands for the history that is due, or it is refused with the fault that is due
--   before_rest found rest     values before those of the rest, or the fault of the rest
--   Continues memory Room due rest   what is due is what the rest makes of a history for which it stands, and which has room for the rest
--   Gives due result           the part gives what is due, a value or a fault
--   GivesAll due result        so does a part that gives values in a row
use Rattle.std.specs.Prelude.{◌≡◌, List, ◌++◌, Result, Ok, Err, MatchResult, Vec}
use Rattle.std.specs.declared.alloc.Global.{Global}
use Rattle.alf_ops.specs.declared.history.Value.{Value}
use Rattle.alf_ops.specs.declared.history.RunFault.{RunFault}
use Rattle.alf_ops.specs.declared.history.RunEvent.{RunEvent}
use Rattle.alf_values.specs.declared.fault.ValueFault.{ValueFault}
use Rattle.alf_values.specs.declared.fault.ValueFault.TheVariants.{Run, Memory}
use Rattle.alf_values.specs.Memories.{RunMemory}
use Rattle.alf_values.specs.Standing.{StandsFor}

-- it stands for some history
pub record Remembers (memory : RunMemory) : Type 0 where
  pub history : List RunEvent
  pub stands : StandsFor memory history

-- what is due is a history, for which it stands
pub record Reaches (memory : RunMemory) (due : Result (List RunEvent) RunFault) : Type 0 where
  pub history : List RunEvent
  pub is : due ≡ Ok history
  pub stands : StandsFor memory history

-- what is due is this fault; a want of memory tells nothing
abbrev pub IsFaultOf : {A : Type 0} → Result A RunFault → ValueFault → Type 0
IsFaultOf due (Run fault) = due ≡ Err fault
IsFaultOf due Memory = Unit {0}

-- the part is done, and the memory stands for the history that is due, or it is refused with the fault that is due
abbrev pub Does : RunMemory → Result (List RunEvent) RunFault → Result Unit ValueFault → Type 0
Does memory due result = MatchResult result (λ _. Reaches memory due) (λ fault. IsFaultOf due fault)

-- the part gives what is due, a value or a fault
abbrev pub Gives : {A : Type 0} → Result A RunFault → Result A ValueFault → Type 0
Gives due result = MatchResult result (λ value. due ≡ Ok value) (λ fault. IsFaultOf due fault)

-- so does a part that gives values in a row
abbrev pub GivesAll : Result (List Value) RunFault → Result (Vec Value Global) ValueFault → Type 0
GivesAll due result = MatchResult result (λ values. due ≡ Ok values.items) (λ fault. IsFaultOf due fault)

-- what is due is what the rest makes of a history for which the memory stands, and which has room for the rest
pub record Continues {A : Type 0} (memory : RunMemory) (Room : List RunEvent → Type 0) (due : A)
    (rest : List RunEvent → A) : Type 0 where
  pub history : List RunEvent
  pub stands : StandsFor memory history
  pub room : Room history
  pub goes : due ≡ rest history

-- values before those of the rest, or the fault of the rest
abbrev pub before_rest : List Value → Result (List Value) RunFault → Result (List Value) RunFault
before_rest found (Ok values) = Ok (found ++ values)
before_rest found (Err fault) = Err fault
