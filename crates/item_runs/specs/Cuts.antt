-- Blocks that do what items do.
--   IsSame frames numbers items others    both stretches do the same, after each history
--   Leads frames numbers all to history end   the end goes to a label, from which on, if it stands, the same is done as by these items
--   EndDoes                    what a stretch does from the ending of its block on
--   BlockDoes                  the stretch that begins with a block does what the block does
--   IsCut frames numbers all blocks   the blocks do what the items do
--   BlocksAreCut               the blocks of a function's items do what these do
--   FunctionIsCut frames whole k function   so do those of function k of a numbered program
--   FunctionsAreCut            so do those of each of its functions
use Rattle.std.specs.Prelude.{◌≡◌, ℕ, suc, true, List, map, Option, Some, None, Result, Ok, Err, slice_get}
use Rattle.alf_ops.specs.declared.history.Value.{Value}
use Rattle.alf_ops.specs.declared.history.Value.TheVariants.{Int, Ptr}
use Rattle.alf_ops.specs.declared.history.RunFault.{RunFault}
use Rattle.alf_ops.specs.declared.history.RunFault.TheVariants.{Kind}
use Rattle.alf_ops.specs.declared.history.FrameShape.{FrameShape}
use Rattle.alf_ops.specs.declared.history.RunEvent.{RunEvent}
use Rattle.alf_ops.specs.Pointers.{operands}
use Rattle.alf_program.specs.Tree.{BodyItem, Function, WholeProgram}
use Rattle.alf_check.specs.Blocks.{blocks_of}
use Rattle.alf_check.specs.CheckedPrograms.{BlockEnding, Fall, Jump, Switch, Call, Return, NumberedBlock, NumberedFunction}
use Rattle.alf_check.specs.Numbers.{Numbers, has_label, block_number, first_frame, numbers_in}
use Rattle.alf_check.specs.Numbered.{numbered_blocks, numbered}
use Rattle.alf_runs.specs.Expressions.{value_of}
use Rattle.alf_runs.specs.Statements.{after_statements}
use Rattle.alf_runs.specs.Steps.{target_of}
use Rattle.item_runs.specs.Stretches.{End, Falls, Goes, Enters, Leaves, Stops, stretch, items_after, IsNamed}

module _ (frames : List FrameShape) (numbers : Numbers) where
  -- both stretches do the same
  abbrev pub IsSame : List BodyItem → List BodyItem → Type 0
  IsSame items others = (history : List RunEvent) → stretch frames numbers items history ≡ stretch frames numbers others history

  -- the end goes to a label, from which on, if it stands, the same is done as by these items
  pub record Leads (all to : List BodyItem) (history : List RunEvent) (end : End) : Type 0 where
    pub label : List ℕ
    pub goes : end ≡ Goes label history
    pub same : has_label label all ≡ true → IsSame (items_after label all) to

  -- a switch goes to the block of its word
  abbrev pub SwitchDoes : List BodyItem → (ℕ → List BodyItem) → List (ℕ × ℕ) → ℕ → List RunEvent → End
      → Result Value RunFault → Type 0
  SwitchDoes all from targets others history end (Ok (Int size word)) = Leads all (from (target_of targets others word)) history end
  SwitchDoes all from targets others history end (Ok (Ptr frame offset)) = end ≡ Stops Kind
  SwitchDoes all from targets others history end (Err fault) = end ≡ Stops fault

  -- a call enters, and after it the same is done as from the next block on
  pub record Calls (f : ℕ) (values : List Value) (result : Option (ℕ × ℕ)) (next : List BodyItem) (history : List RunEvent) (end : End) : Type 0 where
    pub rest : List BodyItem
    pub enters : end ≡ Enters f values result rest history
    pub same : IsSame rest next

  abbrev pub CallDoes : ℕ → Option (ℕ × ℕ) → List BodyItem → List RunEvent → End → Result (List Value) RunFault → Type 0
  CallDoes f result next history end (Ok values) = Calls f values result next history end
  CallDoes f result next history end (Err fault) = end ≡ Stops fault

  abbrev pub ReturnDoes : List RunEvent → End → Result Value RunFault → Type 0
  ReturnDoes history end (Ok value) = end ≡ Leaves (Some value) history
  ReturnDoes history end (Err fault) = end ≡ Stops fault

  -- what a stretch does from the ending of block b on; from each block on it has these items
  abbrev pub EndDoes : List BodyItem → (ℕ → List BodyItem) → ℕ → BlockEnding → List RunEvent → End → Type 0
  EndDoes all from b (Fall next) history end = (next ≡ suc b) × (end ≡ stretch frames numbers (from next) history)
  EndDoes all from b (Jump to) history end = Leads all (from to) history end
  EndDoes all from b (Switch value targets others) history end = SwitchDoes all from targets others history end (value_of frames history value)
  EndDoes all from b (Call f args result next) history end = CallDoes f result (from next) history end (operands (map (value_of frames history) args))
  EndDoes all from b (Return None) history end = end ≡ Leaves None history
  EndDoes all from b (Return (Some value)) history end = ReturnDoes history end (value_of frames history value)

  -- and from its statements on
  abbrev pub ThenDoes : List BodyItem → (ℕ → List BodyItem) → ℕ → BlockEnding → End → Result (List RunEvent) RunFault
      → Type 0
  ThenDoes all from b ending end (Ok history) = EndDoes all from b ending history end
  ThenDoes all from b ending end (Err fault) = end ≡ Stops fault

  -- the stretch from a block on does what the block does; past the last it falls off the items
  abbrev pub BlockDoes : List BodyItem → (ℕ → List BodyItem) → ℕ → Option NumberedBlock → List RunEvent → Type 0
  BlockDoes all from b None history = stretch frames numbers (from b) history ≡ Falls history
  BlockDoes all from b (Some block) history = ThenDoes all from b block.ending (stretch frames numbers (from b) history) (after_statements frames block.statements (Ok history))

  -- the blocks do what the items do
  pub record IsCut (all : List BodyItem) (blocks : List NumberedBlock) : Type 0 where
    pub from : ℕ → List BodyItem
    pub first : from 0 ≡ all
    pub among : (b : ℕ) (label : List ℕ) → IsNamed (from b) label → IsNamed all label
    pub does : (b : ℕ) (history : List RunEvent) → BlockDoes all from b (slice_get blocks b) history

-- the blocks of a function's items do what these do
abbrev pub BlocksAreCut : Type 0
BlocksAreCut = (frames : List FrameShape) (numbers : Numbers) (items : List BodyItem) → numbers.block ≡ block_number items → IsCut frames numbers items (numbered_blocks numbers 0 (blocks_of items))

-- function k of the program has these blocks, which do what its items do
pub record FunctionIsCut (frames : List FrameShape) (whole : WholeProgram) (k : ℕ)
    (function : NumberedFunction) : Type 0 where
  pub func : Function
  pub at : slice_get whole.funcs k ≡ Some func
  pub cut : IsCut frames (numbers_in whole (first_frame whole k) func) func.items function.blocks

-- so it is of each function of a numbered program
abbrev pub FunctionsAreCut : Type 0
FunctionsAreCut = (frames : List FrameShape) (whole : WholeProgram) (root : List ℕ) (k : ℕ) (function : NumberedFunction)
    → slice_get (numbered whole root).funcs k ≡ Some function
    → FunctionIsCut frames whole k function
