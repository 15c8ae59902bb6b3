-- What a reader's code stands for.
--   Reading R E    what a reader of type R and its errors of type E stand for
--   Reads reading rule view result before after   an answer of the reader is what reading by the rule gives, where `view` is what is seen of a value
use Rattle.std.specs.Prelude.{Bool, Result, Option}
use Rattle.grammar.specs.Form.{At, Gives}
use Rattle.grammar.specs.Rule.{Rule}

pub record Reading (R E : Type 0) : Type 1 where
  pub Token : Type 0
  pub Room : Type 0
  pub Fault : Type 0
  -- where the reader stands
  pub position : R → At Token Room
  -- the fault of an error, or none where memory ran out
  pub fault_of : E → Option Fault

abbrev pub Reads : {R E X Y : Type 0} {some : Bool} (reading : Reading R E)
    → Rule reading.Token reading.Room reading.Fault some Y → (X → Y) → Result X E → R → R → Type 0
Reads reading rule view result before after = Gives reading.fault_of (λ x. (view x, reading.position after)) result (rule.form.reading (reading.position before))
