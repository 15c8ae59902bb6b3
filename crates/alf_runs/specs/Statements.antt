-- What statements make of a history.
--   after_statement frames s history     the history after the statement, or its first fault
--   after_statements frames ss history   the history after the statements in order, or the first fault
use Rattle.std.specs.Prelude.{List, [], ◌∷◌, Result, Ok, Err}
use Rattle.alf_ops.specs.declared.history.Value.{Value}
use Rattle.alf_ops.specs.declared.history.RunFault.{RunFault}
use Rattle.alf_ops.specs.declared.history.FrameShape.{FrameShape}
use Rattle.alf_ops.specs.declared.history.RunEvent.{RunEvent}
use Rattle.alf_ops.specs.Histories.{store}
use Rattle.alf_check.specs.CheckedPrograms.{NumberedStatement, Null, Store}
use Rattle.alf_runs.specs.Expressions.{value_of}

-- the history after a store: a fault of the address counts first, then one of the value, then that of the cell
abbrev pub after_store : List FrameShape → List RunEvent → Result Value RunFault → Result Value RunFault
    → Result (List RunEvent) RunFault
after_store frames history (Err fault) value = Err fault
after_store frames history (Ok place) (Err fault) = Err fault
after_store frames history (Ok place) (Ok value) = store frames history place value

-- the history after the statement, or its first fault
abbrev pub after_statement : List FrameShape → NumberedStatement → List RunEvent → Result (List RunEvent) RunFault
after_statement frames Null history = Ok history
after_statement frames (Store to value) history = after_store frames history (value_of frames history to) (value_of frames history value)

-- the history after the statements in order, or the first fault
abbrev pub after_statements : List FrameShape → List NumberedStatement → Result (List RunEvent) RunFault
    → Result (List RunEvent) RunFault
after_statements frames ss (Err fault) = Err fault
after_statements frames [] (Ok history) = Ok history
after_statements frames (s ∷ ss) (Ok history) = after_statements frames ss (after_statement frames s history)
