-- Statements in which `&&` and `||` stand in conditions alone, as the grammar has it.
--   IsPlainCondition e       no `&&` and no `||` stands in it but at its top, below `!` and in parentheses
--   ValueIsPlain, EffectIsPlain, LocalsArePlain, StatementIsPlain, StatementsArePlain   so it is of all that stands in these
use Rattle.std.specs.Prelude.{◌≡◌, true, false, List, [], ◌∷◌, ⊤, All, Option, Some, None}
use Rattle.c_unit.specs.Tree.{Expression, OfConstant, OfName, InParentheses, WithUnary, WithCast, AtIndex, WithBinary, ValueTree, OfExpression, OfCall, CallTree, EffectTree, Assigns, Updates, Steps, Calls, LocalShapeTree, LocalInteger, LocalPointer, LocalArray, LocalTree, Statement, Empty, Declares, Block, If, IfElse, While, Do, For, ForAfter, Switch, Case, Default, Break, Continue, Returns, Does, Statements, Nothing, Then}
use Rattle.c_rules.specs.Expressions.{is_of_conditions}
use Rattle.c_lowered.specs.Conditions.{by_unary, by_binary}
use Rattle.lowering_values.specs.Agreement.{IsPlain}
use Rattle.lowering_simulation.specs.Leaves.{Chosen}

abbrev pub IsPlainCondition : Expression → Type 0
IsPlainCondition (OfConstant token) = ⊤
IsPlainCondition (OfName token) = ⊤
IsPlainCondition (InParentheses token inner) = IsPlainCondition inner
IsPlainCondition (WithUnary op token operand) = Chosen (by_unary op true false) (IsPlainCondition operand) (IsPlain operand)
IsPlainCondition (WithCast token to operand) = IsPlain operand
IsPlainCondition (AtIndex base token index) = IsPlain base × IsPlain index
IsPlainCondition (WithBinary op token left right) = Chosen (by_binary op true true false) (IsPlainCondition left × IsPlainCondition right) (IsPlain left × IsPlain right)

abbrev pub IfIsPlain : Option Expression → Type 0
IfIsPlain None = ⊤
IfIsPlain (Some e) = IsPlainCondition e

abbrev pub CallIsPlain : CallTree → Type 0
CallIsPlain call = All IsPlain call.arguments

abbrev pub ValueIsPlain : ValueTree → Type 0
ValueIsPlain (OfExpression e) = IsPlain e
ValueIsPlain (OfCall call) = CallIsPlain call

abbrev pub FirstIsPlain : Option ValueTree → Type 0
FirstIsPlain None = ⊤
FirstIsPlain (Some value) = ValueIsPlain value

abbrev pub EffectIsPlain : EffectTree → Type 0
EffectIsPlain (Assigns to token value) = IsPlain to × ValueIsPlain value
EffectIsPlain (Updates to op token e) = (is_of_conditions op ≡ false) × IsPlain to × IsPlain e
EffectIsPlain (Steps operand up token) = IsPlain operand
EffectIsPlain (Calls call) = CallIsPlain call

abbrev pub LastIsPlain : Option EffectTree → Type 0
LastIsPlain None = ⊤
LastIsPlain (Some effect) = EffectIsPlain effect

abbrev pub ShapeIsPlain : LocalShapeTree → Type 0
ShapeIsPlain (LocalInteger first) = FirstIsPlain first
ShapeIsPlain (LocalPointer first) = FirstIsPlain first
ShapeIsPlain (LocalArray size firsts) = ⊤

abbrev pub LocalsArePlain : List LocalTree → Type 0
LocalsArePlain [] = ⊤
LocalsArePlain (local ∷ locals) = ShapeIsPlain local.shape × LocalsArePlain locals

abbrev mutual
  pub StatementIsPlain : Statement → Type 0
  StatementIsPlain (Empty token) = ⊤
  StatementIsPlain (Declares first kind locals) = LocalsArePlain locals
  StatementIsPlain (Block body) = StatementsArePlain body
  StatementIsPlain (If condition body) = IsPlainCondition condition × StatementIsPlain body
  StatementIsPlain (IfElse condition body otherwise) = IsPlainCondition condition × StatementIsPlain body × StatementIsPlain otherwise
  StatementIsPlain (While condition body) = IsPlainCondition condition × StatementIsPlain body
  StatementIsPlain (Do body condition) = StatementIsPlain body × IsPlainCondition condition
  StatementIsPlain (For condition last body) = IfIsPlain condition × LastIsPlain last × StatementIsPlain body
  StatementIsPlain (ForAfter first condition last body) = StatementIsPlain first × IfIsPlain condition × LastIsPlain last × StatementIsPlain body
  StatementIsPlain (Switch value body) = IsPlain value × StatementsArePlain body
  StatementIsPlain (Case token c) = ⊤
  StatementIsPlain (Default token) = ⊤
  StatementIsPlain (Break token) = ⊤
  StatementIsPlain (Continue token) = ⊤
  StatementIsPlain (Returns token value) = FirstIsPlain value
  StatementIsPlain (Does effect) = EffectIsPlain effect

  pub StatementsArePlain : Statements → Type 0
  StatementsArePlain Nothing = ⊤
  StatementsArePlain (Then s rest) = StatementIsPlain s × StatementsArePlain rest
