-- The trees of units, without where they lie in memory. Where a part is a token, it is the number of the token.
--   Expression                 an expression
--   CallTree, ValueTree, EffectTree   a call; what is assigned, held at first or returned; what a statement does
--   LocalTree                  a local that is declared
--   Statement, Statements      what stands in a block, and statements in a row
--   ExternalTree               what stands at file level
--   expression_of, call_of, value_of, effect_of, local_of, statement_of, external_of   what the code's values stand for
use Rattle.std.specs.Prelude.{ℕ, List, [], ◌∷◌, map, Bool, Option, None, Some}
use Rattle.std.specs.Option.{option_map}
use Rattle.c_unit.specs.declared.types.Integer.{Integer}
use Rattle.c_unit.specs.declared.types.Scalar.{Scalar}
use Rattle.c_unit.specs.declared.types.Outcome.{Outcome}
use Rattle.c_unit.specs.declared.types.Constant.{Constant}
use Rattle.c_unit.specs.declared.expression.Unary.{Unary}
use Rattle.c_unit.specs.declared.expression.Binary.{Binary}
use Rattle.c_unit.specs.declared.expression.Expr.{Expr}
use Rattle.c_unit.specs.declared.expression.Expr.TheOpen.{Expr-F}
use Rattle.c_unit.specs.declared.expression.Expr.TheOpen as exprs
use Rattle.c_unit.specs.declared.expression.Expr.TheFolds.{fold-Expr}
use Rattle.c_unit.specs.declared.statement.Call.{Call}
use Rattle.c_unit.specs.declared.statement.Value.{Value}
use Rattle.c_unit.specs.declared.statement.Value.TheVariants as values
use Rattle.c_unit.specs.declared.statement.Effect.{Effect}
use Rattle.c_unit.specs.declared.statement.Effect.TheVariants as effects
use Rattle.c_unit.specs.declared.statement.LocalShape.{LocalShape}
use Rattle.c_unit.specs.declared.statement.LocalShape.TheVariants as locals
use Rattle.c_unit.specs.declared.statement.Local.{Local}
use Rattle.c_unit.specs.declared.statement.Stmt.{Stmt}
use Rattle.c_unit.specs.declared.statement.Stmt.TheOpen.{Stmt-F}
use Rattle.c_unit.specs.declared.statement.Stmt.TheOpen as stmts
use Rattle.c_unit.specs.declared.statement.Stmt.TheFolds.{fold-Stmt}
use Rattle.c_unit.specs.declared.external.Parameter.{Parameter}
use Rattle.c_unit.specs.declared.external.Shape.{Shape}
use Rattle.c_unit.specs.declared.external.Shape.TheVariants as shapes
use Rattle.c_unit.specs.declared.external.Declarator.{Declarator}
use Rattle.c_unit.specs.declared.external.External.{External}
use Rattle.c_unit.specs.declared.external.External.TheVariants as externals

-- ---- expressions

pub data Expression : Type 0 where
  OfConstant : ℕ → Expression
  OfName : ℕ → Expression
  InParentheses : ℕ → Expression → Expression
  WithUnary : Unary → ℕ → Expression → Expression
  WithCast : ℕ → Scalar → Expression → Expression
  AtIndex : Expression → ℕ → Expression → Expression
  WithBinary : Binary → ℕ → Expression → Expression → Expression

pub record CallTree : Type 0 where
  pub name : ℕ
  pub arguments : List Expression

pub data ValueTree : Type 0 where
  OfExpression : Expression → ValueTree
  OfCall : CallTree → ValueTree

pub data EffectTree : Type 0 where
  Assigns : Expression → ℕ → ValueTree → EffectTree
  Updates : Expression → Binary → ℕ → Expression → EffectTree
  Steps : Expression → Bool → ℕ → EffectTree
  Calls : CallTree → EffectTree

-- ---- statements

pub data LocalShapeTree : Type 0 where
  LocalInteger : Option ValueTree → LocalShapeTree
  LocalPointer : Option ValueTree → LocalShapeTree
  LocalArray : ℕ → Option (List Constant) → LocalShapeTree

pub record LocalTree : Type 0 where
  pub name : ℕ
  pub shape : LocalShapeTree

mutual
  -- what stands in a block
  pub data Statement : Type 0 where
    Empty : ℕ → Statement
    Declares : ℕ → Integer → List LocalTree → Statement
    Block : Statements → Statement
    If : Expression → Statement → Statement
    IfElse : Expression → Statement → Statement → Statement
    While : Expression → Statement → Statement
    Do : Statement → Expression → Statement
    -- first what is done before, if anything is
    For : Option Expression → Option EffectTree → Statement → Statement
    ForAfter : Statement → Option Expression → Option EffectTree → Statement → Statement
    Switch : Expression → Statements → Statement
    Case : ℕ → Constant → Statement
    Default : ℕ → Statement
    Break : ℕ → Statement
    Continue : ℕ → Statement
    Returns : ℕ → Option ValueTree → Statement
    Does : EffectTree → Statement

  -- statements in a row
  pub data Statements : Type 0 where
    Nothing : Statements
    Then : Statement → Statements → Statements

-- ---- file level

pub data ShapeTree : Type 0 where
  GlobalInteger : Option Constant → ShapeTree
  GlobalArray : ℕ → Option (List Constant) → ShapeTree
  FunctionOf : List Parameter → ShapeTree

pub record DeclaratorTree : Type 0 where
  pub name : ℕ
  pub shape : ShapeTree

pub data ExternalTree : Type 0 where
  Declaration : ℕ → Outcome → List DeclaratorTree → ExternalTree
  Definition : ℕ → Outcome → ℕ → List Parameter → List Statement → ExternalTree

-- ---- what the code's values stand for

abbrev pub expression_step : Expr-F Expression → Expression
expression_step (exprs.Constant token) = OfConstant token
expression_step (exprs.Name token) = OfName token
expression_step (exprs.Parentheses token inner) = InParentheses token inner.value
expression_step (exprs.Unary op token operand) = WithUnary op token operand.value
expression_step (exprs.Cast token kind operand) = WithCast token kind operand.value
expression_step (exprs.Index base token index) = AtIndex base.value token index.value
expression_step (exprs.Binary op token left right) = WithBinary op token left.value right.value

abbrev pub expression_of : Expr → Expression
expression_of = fold-Expr Expression expression_step

abbrev pub call_of : Call → CallTree
call_of call = record { name = call.name; arguments = map expression_of call.arguments.items }

abbrev pub value_of : Value → ValueTree
value_of (values.Expr e) = OfExpression (expression_of e)
value_of (values.Call call) = OfCall (call_of call)

abbrev pub effect_of : Effect → EffectTree
effect_of (effects.Assign to token value) = Assigns (expression_of to) token (value_of value)
effect_of (effects.Update to op token operand) = Updates (expression_of to) op token (expression_of operand)
effect_of (effects.Step operand up token) = Steps (expression_of operand) up token
effect_of (effects.Call call) = Calls (call_of call)

abbrev pub local_shape_of : LocalShape → LocalShapeTree
local_shape_of (locals.Integer first) = LocalInteger (option_map value_of first)
local_shape_of (locals.Pointer first) = LocalPointer (option_map value_of first)
local_shape_of (locals.Array size first) = LocalArray size (option_map (λ constants. constants.items) first)

abbrev pub local_of : Local → LocalTree
local_of local = record { name = local.name; shape = local_shape_of local.shape }

abbrev pub statements_of : List Statement → Statements
statements_of [] = Nothing
statements_of (s ∷ ss) = Then s (statements_of ss)

abbrev pub if_of : Expression → Statement → Option Statement → Statement
if_of condition body None = If condition body
if_of condition body (Some otherwise) = IfElse condition body otherwise

abbrev pub for_of : Option Statement → Option Expression → Option EffectTree → Statement → Statement
for_of None condition after body = For condition after body
for_of (Some first) condition after body = ForAfter first condition after body

abbrev pub statement_step : Stmt-F Statement → Statement
statement_step (stmts.Empty token) = Empty token
statement_step (stmts.Declare first kind declared) = Declares first kind (map local_of declared.items)
statement_step (stmts.Block body) = Block (statements_of body.items)
statement_step (stmts.If condition body otherwise) = if_of (expression_of condition) body.value (option_map (λ s. s.value) otherwise)
statement_step (stmts.While condition body) = While (expression_of condition) body.value
statement_step (stmts.Do body condition) = Do body.value (expression_of condition)
statement_step (stmts.For first condition after body) = for_of (option_map (λ s. s.value) first) (option_map expression_of condition) (option_map effect_of after) body.value
statement_step (stmts.Switch value body) = Switch (expression_of value) (statements_of body.items)
statement_step (stmts.Case token constant) = Case token constant
statement_step (stmts.Default token) = Default token
statement_step (stmts.Break token) = Break token
statement_step (stmts.Continue token) = Continue token
statement_step (stmts.Return token value) = Returns token (option_map value_of value)
statement_step (stmts.Effect effect) = Does (effect_of effect)

abbrev pub statement_of : Stmt → Statement
statement_of = fold-Stmt Statement statement_step

abbrev pub shape_of : Shape → ShapeTree
shape_of (shapes.Integer first) = GlobalInteger first
shape_of (shapes.Array size first) = GlobalArray size (option_map (λ constants. constants.items) first)
shape_of (shapes.Function parameters) = FunctionOf parameters.items

abbrev pub declarator_of : Declarator → DeclaratorTree
declarator_of declarator = record { name = declarator.name; shape = shape_of declarator.shape }

abbrev pub external_of : External → ExternalTree
external_of (externals.Declare first kind declared) = Declaration first kind (map declarator_of declared.items)
external_of (externals.Define first kind name parameters body) = Definition first kind name parameters.items (map statement_of body.items)
