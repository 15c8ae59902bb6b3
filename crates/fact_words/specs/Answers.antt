-- What the answers of functions that read words tell.
--   departure_in answer   the departure of an answer, or none where memory ran out
--   Answers result read   the answer is what reading gives
use Rattle.std.specs.Prelude.{ℕ, Result, Option, Some, None}
use Rattle.grammar.specs.Form.{Gives}
use Rattle.fact_words.specs.declared.fault.FaultAt.{FaultAt}
use Rattle.fact_words.specs.declared.fault.FaultAt.TheVariants as faults
use Rattle.fact_words.specs.Numbers.{DepartureAt, Fault, Syntax, Number}

-- the departure that an answer tells, or none for want of memory
abbrev pub departure_in : {P : Type 0} → FaultAt P → Option (DepartureAt P)
departure_in (faults.Syntax place) = Some (Syntax place)
departure_in (faults.Number place) = Some (Number place)
departure_in faults.Memory = None

abbrev pub fault_of : FaultAt ℕ → Option Fault
fault_of error = departure_in error

abbrev pub Answers : {A : Type 0} → Result A (FaultAt ℕ) → Result A Fault → Type 0
Answers result read = Gives fault_of (λ x. x) result read
