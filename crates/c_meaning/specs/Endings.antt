-- How statements end, and how the meaning goes on from there.
--   History                the events so far, the newest first
--   Ending                 normally, by `break`, by `continue`, by `return` with a value or none, with a fault, or where turns are used up
--   after r                what a store makes of the history, or its fault, as an ending
--   then_do e go           goes on from a normal end
--   after_body e go        goes on from the end of a loop's body
--   after_switch e         the end of a switch, which a `break` ends
--   after_call e go        goes on with what a function gave
--   by_truth r held failed goes on where the condition holds, and where it does not
--   with_values r go       goes on with the values of arguments
--   turns n test body last history    a loop of at most n turns that tests before its body; the last part of a `for` ends each turn
--   rounds n body test history        a loop of at most n turns that tests after its body
use Rattle.std.specs.Prelude.{ℕ, zero, suc, Bool, true, false, List, Option, None, Result, Ok, Err}
use Rattle.alf_ops.specs.declared.history.Value.{Value}
use Rattle.alf_ops.specs.declared.history.RunFault.{RunFault}
use Rattle.alf_ops.specs.declared.history.RunEvent.{RunEvent}

abbrev pub History : Type 0
History = List RunEvent

pub data Ending : Type 0 where
  Normal : History → Ending
  Broke : History → Ending
  Continued : History → Ending
  Returned : Option Value → History → Ending
  Faulted : RunFault → Ending
  UsedUp : Ending

abbrev pub after : Result History RunFault → Ending
after (Ok history) = Normal history
after (Err fault) = Faulted fault

abbrev pub then_do : Ending → (History → Ending) → Ending
then_do (Normal history) go = go history
then_do (Broke history) go = Broke history
then_do (Continued history) go = Continued history
then_do (Returned value history) go = Returned value history
then_do (Faulted fault) go = Faulted fault
then_do UsedUp go = UsedUp

-- a `break` ends the loop, and a `continue` the turn
abbrev pub after_body : Ending → (History → Ending) → Ending
after_body (Normal history) go = go history
after_body (Broke history) go = Normal history
after_body (Continued history) go = go history
after_body (Returned value history) go = Returned value history
after_body (Faulted fault) go = Faulted fault
after_body UsedUp go = UsedUp

abbrev pub after_switch : Ending → Ending
after_switch (Normal history) = Normal history
after_switch (Broke history) = Normal history
after_switch (Continued history) = Continued history
after_switch (Returned value history) = Returned value history
after_switch (Faulted fault) = Faulted fault
after_switch UsedUp = UsedUp

-- a function ends by a return, with a fault, or where turns are used up
abbrev pub after_call : Ending → (Option Value → History → Ending) → Ending
after_call (Normal history) go = go None history
after_call (Broke history) go = go None history
after_call (Continued history) go = go None history
after_call (Returned value history) go = go value history
after_call (Faulted fault) go = Faulted fault
after_call UsedUp go = UsedUp

abbrev pub by_truth : Result Bool RunFault → Ending → Ending → Ending
by_truth (Ok true) held failed = held
by_truth (Ok false) held failed = failed
by_truth (Err fault) held failed = Faulted fault

abbrev pub with_values : Result (List Value) RunFault → (List Value → Ending) → Ending
with_values (Ok values) go = go values
with_values (Err fault) go = Faulted fault

-- a loop of exactly n turns makes its last test all the same
abbrev pub turns : ℕ → (History → Result Bool RunFault) → (History → Ending) → (History → Ending) → History → Ending
turns zero test body last history = by_truth (test history) UsedUp (Normal history)
turns (suc n) test body last history =
    by_truth (test history) (after_body (body history) (λ after_turn. then_do (last after_turn) (turns n test body last))) (Normal history)

abbrev pub rounds : ℕ → (History → Ending) → (History → Result Bool RunFault) → History → Ending
rounds zero body test history = UsedUp
rounds (suc n) body test history = after_body (body history) (λ after_turn. by_truth (test after_turn) (rounds n body test after_turn) (Normal after_turn))
