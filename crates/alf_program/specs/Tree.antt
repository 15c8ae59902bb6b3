-- Programs, without where they lie in memory. An expression is of names or of numbers, by what stands for a frame in
-- it.
--   Expression F, Expressions F            an expression in which an F stands for a frame, and expressions in a row
--   NamedExpression, NamedExpressions      the same with the names of frames
--   NumberedExpression, NumberedExpressions   the same with the numbers of frames
--   with_frames f e                        the expression with what f gives in place of each frame
--   Statement, BodyItem                    a statement, and what stands in the list of a function's statements
--   Allocation, InitialValue               a frame with its size in bits, and what a frame holds at first
--   Function, WholeProgram                 a function, a program
--   call_of, return_of, store_of item      the call, the return, the store that an item is
--   expression_of, statement_of, item_of, allocation_of, names_of, initial_of, function_of, program_of   what the code's values stand for
use Rattle.std.specs.Prelude.{ℕ, List, [], ◌∷◌, map, Option, None, Some}
use Rattle.std.specs.Option.{option_map}
use Rattle.alf_ops.specs.declared.operator.Op.{Op}
use Rattle.alf_program.specs.declared.program.Num.{Num}
use Rattle.alf_program.specs.declared.program.Expr.{Expr}
use Rattle.alf_program.specs.declared.program.Expr.TheOpen.{Expr-F}
use Rattle.alf_program.specs.declared.program.Expr.TheOpen as exprs
use Rattle.alf_program.specs.declared.program.Expr.TheFolds.{fold-Expr}
use Rattle.alf_program.specs.declared.program.Stmt.{Stmt}
use Rattle.alf_program.specs.declared.program.Stmt.TheVariants as stmts
use Rattle.alf_program.specs.declared.program.Item.{Item}
use Rattle.alf_program.specs.declared.program.Item.TheVariants as items
use Rattle.alf_program.specs.declared.program.Alloc.{Alloc}
use Rattle.alf_program.specs.declared.program.Init.{Init}
use Rattle.alf_program.specs.declared.program.Func.{Func}
use Rattle.alf_program.specs.declared.program.Program.{Program}

mutual
  -- an expression: a number, an address, a load of so many bits, or an operator with its sizes and operands
  pub data Expression (F : Type 0) : Type 0 where
    Number : Num → Expression F
    Address : F → ℕ → Expression F
    Load : ℕ → Expression F → Expression F
    Apply : Op → List ℕ → Expressions F → Expression F

  -- expressions in a row
  pub data Expressions (F : Type 0) : Type 0 where
    Empty : Expressions F
    With : Expression F → Expressions F → Expressions F

abbrev pub NamedExpression : Type 0
NamedExpression = Expression (List ℕ)

abbrev pub NamedExpressions : Type 0
NamedExpressions = Expressions (List ℕ)

abbrev pub NumberedExpression : Type 0
NumberedExpression = Expression ℕ

abbrev pub NumberedExpressions : Type 0
NumberedExpressions = Expressions ℕ

abbrev mutual
  -- the expression with what f gives in place of each frame
  pub with_frames : {F G : Type 0} → (F → G) → Expression F → Expression G
  with_frames f (Number n) = Number n
  with_frames f (Address frame offset) = Address (f frame) offset
  with_frames f (Load size at) = Load size (with_frames f at)
  with_frames f (Apply op sizes operands) = Apply op sizes (all_with_frames f operands)

  pub all_with_frames : {F G : Type 0} → (F → G) → Expressions F → Expressions G
  all_with_frames f Empty = Empty
  all_with_frames f (With e es) = With (with_frames f e) (all_with_frames f es)

-- a statement
pub data Statement : Type 0 where
  Null : Statement
  Store : NamedExpression → NamedExpression → Statement
  Jump : List ℕ → Statement
  Switch : NamedExpression → List (Num × List ℕ) → List ℕ → Statement
  Call : List ℕ → List NamedExpression → Option (List ℕ × ℕ) → Statement
  Return : Option NamedExpression → Statement

-- what stands in the list of a function's statements: a label, or a statement
pub data BodyItem : Type 0 where
  Label : List ℕ → BodyItem
  Do : Statement → BodyItem

-- a call: the function, its arguments, and the frame and the offset that the result goes to
pub record CallParts : Type 0 where
  pub func : List ℕ
  pub args : List NamedExpression
  pub result : Option (List ℕ × ℕ)

-- the call that the item is
abbrev pub call_of : BodyItem → Option CallParts
call_of (Do (Call func args result)) = Some (record { func = func; args = args; result = result })
call_of item = None

-- what the return gives that the item is
abbrev pub return_of : BodyItem → Option (Option NamedExpression)
return_of (Do (Return value)) = Some value
return_of item = None

-- the address and the value of the store that the item is
abbrev pub store_of : BodyItem → Option (NamedExpression × NamedExpression)
store_of (Do (Store to value)) = Some (to, value)
store_of item = None

pub record Allocation : Type 0 where
  pub name : List ℕ
  pub bits : ℕ

pub record InitialValue : Type 0 where
  pub name : List ℕ
  pub offset : ℕ
  pub num : Num

pub record Function : Type 0 where
  pub name : List ℕ
  pub args : List Allocation
  pub decls : List Allocation
  pub inits : List InitialValue
  pub items : List BodyItem

pub record WholeProgram : Type 0 where
  pub exports : List (List ℕ)
  pub labels : List (List ℕ)
  pub decls : List Allocation
  pub inits : List InitialValue
  pub funcs : List Function

-- ---- what the code's values stand for

abbrev pub expressions_of : {F : Type 0} → List (Expression F) → Expressions F
expressions_of [] = Empty
expressions_of (e ∷ es) = With e (expressions_of es)

abbrev pub expression_step : Expr-F NamedExpression → NamedExpression
expression_step (exprs.Num n) = Number n
expression_step (exprs.Addr name offset) = Address name offset
expression_step (exprs.Load size at) = Load size at.value
expression_step (exprs.Apply op sizes operands) = Apply op sizes.items (expressions_of operands.items)

abbrev pub expression_of : Expr → NamedExpression
expression_of = fold-Expr NamedExpression expression_step

abbrev pub statement_of : Stmt → Statement
statement_of stmts.Null = Null
statement_of (stmts.Store at value) = Store (expression_of at) (expression_of value)
statement_of (stmts.Jump label) = Jump label
statement_of (stmts.Switch value targets others) = Switch (expression_of value) targets.items others
statement_of (stmts.Call label args result) = Call label (map expression_of args.items) result
statement_of (stmts.Return value) = Return (option_map expression_of value)

abbrev pub item_of : Item → BodyItem
item_of (items.Label name) = Label name
item_of (items.Stmt stmt) = Do (statement_of stmt)

abbrev pub allocation_of : Alloc → Allocation
allocation_of alloc = record { name = alloc.name; bits = alloc.bits }

-- the names of frames
abbrev pub names_of : List Alloc → List (List ℕ)
names_of allocs = map (λ alloc. alloc.name) allocs

abbrev pub initial_of : Init → InitialValue
initial_of init = record { name = init.name; offset = init.offset; num = init.num }

abbrev pub function_of : Func → Function
function_of func = record {
  name = func.name;
  args = map allocation_of func.args.items;
  decls = map allocation_of func.decls.items;
  inits = map initial_of func.inits.items;
  items = map item_of func.items.items;
}

abbrev pub program_of : Program → WholeProgram
program_of program = record {
  exports = program.exports.items;
  labels = program.labels.items;
  decls = map allocation_of program.decls.items;
  inits = map initial_of program.inits.items;
  funcs = map function_of program.funcs.items;
}
