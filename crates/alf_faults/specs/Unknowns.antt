-- Names that stand nowhere.
--   is_frame whole func name        the frame is global, or an argument or a declaration of the function
--   unknown_frame whole func name   it is not
--   unknown_in whole func term      the frames in the expression that are not, from left to right
--   unknown_function whole name     no function has the name
--   unknown_label items label       the label does not stand among the items
--   entry_unknowns whole func item  what the item names, in the order of the text
use Rattle.std.specs.Prelude.{ℕ, Bool, not, ◌||◌, List, [], ◌∷◌, ◌++◌, Option, Some, None, is_some}
use Rattle.alf_program.specs.declared.program.Num.{Num}
use Rattle.alf_program.specs.Tree.{NamedExpression, NamedExpressions, Number, Address, Load, Apply, Empty, With, Null, Store, Jump, Switch, Call, Return, BodyItem, Label, Do, Function, WholeProgram, expressions_of}
use Rattle.alf_faults.specs.Places.{frame_place, function_place, label_place}
use Rattle.alf_faults.specs.Fault.{Fault, Unknown, when}

-- the frame is global, or an argument or a declaration of the function
abbrev pub is_frame : WholeProgram → Function → List ℕ → Bool
is_frame whole func name = is_some (frame_place whole.decls name) || is_some (frame_place func.args name) || is_some (frame_place func.decls name)

abbrev pub unknown_frame : WholeProgram → Function → List ℕ → List Fault
unknown_frame whole func name = when (not (is_frame whole func name)) (Unknown name)

abbrev mutual
  -- the unknown frames of an expression, from left to right
  pub unknown_in : WholeProgram → Function → NamedExpression → List Fault
  unknown_in whole func (Number n) = []
  unknown_in whole func (Address frame offset) = unknown_frame whole func frame
  unknown_in whole func (Load size at) = unknown_in whole func at
  unknown_in whole func (Apply op sizes operands) = unknown_among whole func operands

  pub unknown_among : WholeProgram → Function → NamedExpressions → List Fault
  unknown_among whole func Empty = []
  unknown_among whole func (With operand operands) = unknown_in whole func operand ++ unknown_among whole func operands

abbrev pub unknown_function : WholeProgram → List ℕ → List Fault
unknown_function whole name = when (not (is_some (function_place whole.funcs name))) (Unknown name)

abbrev pub unknown_label : List BodyItem → List ℕ → List Fault
unknown_label items label = when (not (is_some (label_place items label))) (Unknown label)

-- the labels of targets
abbrev pub unknown_targets : List BodyItem → List (Num × List ℕ) → List Fault
unknown_targets items [] = []
unknown_targets items (target ∷ targets) = unknown_label items target.1 ++ unknown_targets items targets

-- the frame that a call's result goes to
abbrev pub unknown_result : WholeProgram → Function → Option (List ℕ × ℕ) → List Fault
unknown_result whole func None = []
unknown_result whole func (Some result) = unknown_frame whole func result.0

abbrev pub entry_unknowns : WholeProgram → Function → BodyItem → List Fault
entry_unknowns whole func (Label label) = []
entry_unknowns whole func (Do Null) = []
entry_unknowns whole func (Do (Store at value)) = unknown_in whole func at ++ unknown_in whole func value
entry_unknowns whole func (Do (Jump label)) = unknown_label func.items label
entry_unknowns whole func (Do (Switch value targets others)) = unknown_in whole func value ++ (unknown_targets func.items targets ++ unknown_label func.items others)
entry_unknowns whole func (Do (Call label args result)) = unknown_function whole label ++ (unknown_among whole func (expressions_of args) ++ unknown_result whole func result)
entry_unknowns whole func (Do (Return None)) = []
entry_unknowns whole func (Do (Return (Some value))) = unknown_in whole func value
