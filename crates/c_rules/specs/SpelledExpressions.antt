-- What holds of each expression in a statement.
--   Every P es                   P holds of each of the expressions
--   InCall, InValue, InEffect, InShape, InLocals P x   P holds of each expression in it that stands in no other
--   InStatement, InStatements P C s   P holds of each value and each target in it, and C of each condition
use Rattle.std.specs.Prelude.{List, [], ◌∷◌, ⊤, Option, Some, None}
use Rattle.c_unit.specs.Tree.{Expression, CallTree, ValueTree, OfExpression, OfCall, EffectTree, Assigns, Updates, Steps, Calls, LocalShapeTree, LocalInteger, LocalPointer, LocalArray, LocalTree, Statement, Empty, Declares, Block, If, IfElse, While, Do, For, ForAfter, Switch, Case, Default, Break, Continue, Returns, Does, Statements, Nothing, Then}

abbrev pub Every : (Expression → Type 0) → List Expression → Type 0
Every P [] = ⊤
Every P (e ∷ es) = P e × Every P es

abbrev pub InCall : (Expression → Type 0) → CallTree → Type 0
InCall P call = Every P call.arguments

abbrev pub InValue : (Expression → Type 0) → ValueTree → Type 0
InValue P (OfExpression e) = P e
InValue P (OfCall call) = InCall P call

abbrev pub IfValue : (Expression → Type 0) → Option ValueTree → Type 0
IfValue P None = ⊤
IfValue P (Some value) = InValue P value

abbrev pub InEffect : (Expression → Type 0) → EffectTree → Type 0
InEffect P (Assigns to token value) = P to × InValue P value
InEffect P (Updates to op token e) = P to × P e
InEffect P (Steps operand up token) = P operand
InEffect P (Calls call) = InCall P call

abbrev pub IfEffect : (Expression → Type 0) → Option EffectTree → Type 0
IfEffect P None = ⊤
IfEffect P (Some effect) = InEffect P effect

abbrev pub IfCondition : (Expression → Type 0) → Option Expression → Type 0
IfCondition C None = ⊤
IfCondition C (Some e) = C e

abbrev pub InShape : (Expression → Type 0) → LocalShapeTree → Type 0
InShape P (LocalInteger first) = IfValue P first
InShape P (LocalPointer first) = IfValue P first
InShape P (LocalArray size firsts) = ⊤

abbrev pub InLocals : (Expression → Type 0) → List LocalTree → Type 0
InLocals P [] = ⊤
InLocals P (local ∷ locals) = InShape P local.shape × InLocals P locals

abbrev mutual
  pub InStatement : (Expression → Type 0) → (Expression → Type 0) → Statement → Type 0
  InStatement P C (Empty token) = ⊤
  InStatement P C (Declares first kind locals) = InLocals P locals
  InStatement P C (Block body) = InStatements P C body
  InStatement P C (If condition body) = C condition × InStatement P C body
  InStatement P C (IfElse condition body otherwise) = C condition × InStatement P C body × InStatement P C otherwise
  InStatement P C (While condition body) = C condition × InStatement P C body
  InStatement P C (Do body condition) = InStatement P C body × C condition
  InStatement P C (For condition last body) = IfCondition C condition × IfEffect P last × InStatement P C body
  InStatement P C (ForAfter first condition last body) = InStatement P C first × IfCondition C condition × IfEffect P last × InStatement P C body
  InStatement P C (Switch value body) = P value × InStatements P C body
  InStatement P C (Case token c) = ⊤
  InStatement P C (Default token) = ⊤
  InStatement P C (Break token) = ⊤
  InStatement P C (Continue token) = ⊤
  InStatement P C (Returns token value) = IfValue P value
  InStatement P C (Does effect) = InEffect P effect

  pub InStatements : (Expression → Type 0) → (Expression → Type 0) → Statements → Type 0
  InStatements P C Nothing = ⊤
  InStatements P C (Then s rest) = InStatement P C s × InStatements P C rest
