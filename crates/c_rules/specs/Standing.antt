-- What every unit without faults keeps, construct by construct.
--   Suits words scopes wanted e      the expression has a type that suits where one is wanted
--   IsTarget words scopes e t        the expression has the type t and may be assigned to
--   ArgumentsSuit words scopes args params   there are as many arguments as parameters, and each suits
--   IsCall words defined scopes call o       the call names a function that is defined and gives o, and its arguments suit
--   ValueSuits words defined scopes wanted value   a value suits where a type is wanted
--   EffectStands, LocalsStand, StatementStands, StatementsStand   so for effects, locals and statements
--   ArrayStands words size firsts    an array has an element at least, and no more initialisers than elements
use Rattle.std.specs.Prelude.{◌≡◌, ◌<◌, ◌≤◌, ℕ, true, false, List, [], ◌∷◌, ⊤, Option, Some, None, length}
use Rattle.c_unit.specs.declared.types.Integer.{Integer}
use Rattle.c_unit.specs.declared.types.Scalar.{Scalar}
use Rattle.c_unit.specs.declared.types.Scalar.TheVariants as scalars
use Rattle.c_unit.specs.declared.types.Outcome.{Outcome}
use Rattle.c_unit.specs.declared.types.Outcome.TheVariants as outcomes
use Rattle.c_unit.specs.declared.types.Constant.{Constant}
use Rattle.c_unit.specs.declared.expression.Binary.{Binary}
use Rattle.c_unit.specs.Tree.{Expression, CallTree, ValueTree, OfExpression, OfCall, EffectTree, Assigns, Updates, Steps, Calls, LocalShapeTree, LocalInteger, LocalPointer, LocalArray, LocalTree, Statement, Empty, Declares, Block, If, IfElse, While, Do, For, ForAfter, Switch, Case, Default, Break, Continue, Returns, Does, Statements, Nothing, Then}
use Rattle.c_unit.specs.Units.{Word}
use Rattle.c_rules.specs.Types.{suits, binary_type}
use Rattle.c_rules.specs.Names.{Function, Entry, Scope, worth_at, number_of, look_up, is_declared, innermost}
use Rattle.c_rules.specs.Expressions.{designates, an_integer}
use Rattle.c_rules.specs.Typed.{HasType}
use Rattle.c_rules.specs.Calls.{is_defined}
use Rattle.c_rules.specs.Statements.{with_local, Around, inside, in_loop_of, in_switch_of, label_of, is_label, around_after, scopes_after}

-- ---- expressions

pub record Suits (words : List Word) (scopes : List Scope) (wanted : Scalar) (e : Expression) : Type 0 where
  pub type : Scalar
  pub has : HasType words scopes e type
  pub suit : suits wanted type ≡ true

abbrev pub IsCondition : List Word → List Scope → Expression → Type 0
IsCondition words scopes e = Suits words scopes an_integer e

pub record IsTarget (words : List Word) (scopes : List Scope) (e : Expression) (t : Scalar) : Type 0 where
  pub has : HasType words scopes e t
  pub assignable : designates words scopes e ≡ true

-- ---- calls and values

abbrev pub ArgumentsSuit : List Word → List Scope → List Expression → List Scalar → Type 0
ArgumentsSuit words scopes [] [] = ⊤
ArgumentsSuit words scopes [] (p ∷ ps) = ⊥
ArgumentsSuit words scopes (e ∷ es) [] = ⊥
ArgumentsSuit words scopes (e ∷ es) (p ∷ ps) = Suits words scopes p e × ArgumentsSuit words scopes es ps

pub record IsCall (words : List Word) (defined : List ℕ) (scopes : List Scope) (call : CallTree)
    (o : Outcome) : Type 0 where
  pub entry : Entry
  pub params : List Scalar
  pub found : look_up words scopes call.name ≡ Some entry
  pub function : entry.bound ≡ Function o params
  pub made : is_defined words defined call.name ≡ true
  pub arguments : ArgumentsSuit words scopes call.arguments params

pub record IsValuedCall (words : List Word) (defined : List ℕ) (scopes : List Scope) (wanted : Scalar)
    (call : CallTree) : Type 0 where
  pub type : Integer
  pub call_of : IsCall words defined scopes call (outcomes.Integer type)
  pub suit : suits wanted (scalars.Integer type) ≡ true

abbrev pub ValueSuits : List Word → List ℕ → List Scope → Scalar → ValueTree → Type 0
ValueSuits words defined scopes wanted (OfExpression e) = Suits words scopes wanted e
ValueSuits words defined scopes wanted (OfCall call) = IsValuedCall words defined scopes wanted call

abbrev pub IfValued : List Word → List ℕ → List Scope → Scalar → Option ValueTree → Type 0
IfValued words defined scopes wanted None = ⊤
IfValued words defined scopes wanted (Some value) = ValueSuits words defined scopes wanted value

-- ---- effects

-- `x op= e` is typed as `x = x op e`
pub record IsUpdate (words : List Word) (scopes : List Scope) (to : Expression) (op : Binary)
    (e : Expression) : Type 0 where
  pub type : Scalar
  pub other : Scalar
  pub given : Scalar
  pub target : IsTarget words scopes to type
  pub has : HasType words scopes e other
  pub gives : binary_type op type other ≡ Some given
  pub suit : suits type given ≡ true

abbrev pub EffectStands : List Word → List ℕ → List Scope → EffectTree → Type 0
EffectStands words defined scopes (Assigns to token value) = (t : Scalar) × IsTarget words scopes to t × ValueSuits words defined scopes t value
EffectStands words defined scopes (Updates to op token e) = IsUpdate words scopes to op e
EffectStands words defined scopes (Steps operand up token) = (t : Scalar) × IsTarget words scopes operand t
EffectStands words defined scopes (Calls call) = (o : Outcome) × IsCall words defined scopes call o

abbrev pub IfDone : List Word → List ℕ → List Scope → Option EffectTree → Type 0
IfDone words defined scopes None = ⊤
IfDone words defined scopes (Some effect) = EffectStands words defined scopes effect

abbrev pub IfCondition : List Word → List Scope → Option Expression → Type 0
IfCondition words scopes None = ⊤
IfCondition words scopes (Some e) = IsCondition words scopes e

-- ---- declarations

abbrev pub AreAtMost : ℕ → Option (List Constant) → Type 0
AreAtMost count None = ⊤
AreAtMost count (Some firsts) = length firsts ≤ count

pub record ArrayStands (words : List Word) (size : ℕ) (firsts : Option (List Constant)) : Type 0 where
  pub some : 0 < number_of (worth_at words size)
  pub fit : AreAtMost (number_of (worth_at words size)) firsts

abbrev pub ShapeStands : List Word → List ℕ → List Scope → Integer → LocalShapeTree → Type 0
ShapeStands words defined scopes kind (LocalInteger first) = IfValued words defined scopes (scalars.Integer kind) first
ShapeStands words defined scopes kind (LocalPointer first) = IfValued words defined scopes (scalars.Pointer kind) first
ShapeStands words defined scopes kind (LocalArray size firsts) = ArrayStands words size firsts

-- each name is new in its scope, and what it holds at first suits
abbrev pub LocalsStand : List Word → List ℕ → Integer → List Scope → List LocalTree → Type 0
LocalsStand words defined kind scopes [] = ⊤
LocalsStand words defined kind scopes (local ∷ locals) =
    (is_declared words (innermost scopes) local.name ≡ false) × ShapeStands words defined (with_local kind scopes local) kind local.shape
    × LocalsStand words defined kind (with_local kind scopes local) locals

-- ---- statements

abbrev pub ReturnStands : List Word → List ℕ → List Scope → Outcome → Option ValueTree → Type 0
ReturnStands words defined scopes outcomes.Nothing None = ⊤
ReturnStands words defined scopes outcomes.Nothing (Some value) = ⊥
ReturnStands words defined scopes (outcomes.Integer i) None = ⊥
ReturnStands words defined scopes (outcomes.Integer i) (Some value) = ValueSuits words defined scopes (scalars.Integer i) value

abbrev mutual
  pub StatementStands : List Word → List ℕ → Around → List Scope → Statement → Type 0
  StatementStands words defined around scopes (Empty token) = ⊤
  StatementStands words defined around scopes (Declares first kind locals) = LocalsStand words defined kind scopes locals
  StatementStands words defined around scopes (Block body) = StatementsStand words defined (inside around) ([] ∷ scopes) body
  StatementStands words defined around scopes (If condition body) = IsCondition words scopes condition × StatementStands words defined (inside around) ([] ∷ scopes) body
  StatementStands words defined around scopes (IfElse condition body otherwise) =
      IsCondition words scopes condition × StatementStands words defined (inside around) ([] ∷ scopes) body × StatementStands words defined (inside around) ([] ∷ scopes) otherwise
  StatementStands words defined around scopes (While condition body) = IsCondition words scopes condition × StatementStands words defined (in_loop_of around) ([] ∷ scopes) body
  StatementStands words defined around scopes (Do body condition) = StatementStands words defined (in_loop_of around) ([] ∷ scopes) body × IsCondition words scopes condition
  StatementStands words defined around scopes (For condition after body) =
      IfCondition words scopes condition × IfDone words defined scopes after × StatementStands words defined (in_loop_of around) ([] ∷ scopes) body
  StatementStands words defined around scopes (ForAfter first condition after body) =
      StatementStands words defined (inside around) ([] ∷ scopes) first × IfCondition words (scopes_after ([] ∷ scopes) first) condition
      × IfDone words defined (scopes_after ([] ∷ scopes) first) after × StatementStands words defined (in_loop_of around) ([] ∷ scopes_after ([] ∷ scopes) first) body
  StatementStands words defined around scopes (Switch value body) = IsCondition words scopes value × StatementsStand words defined (in_switch_of around) ([] ∷ scopes) body
  StatementStands words defined around scopes (Case token c) = is_label around.labels (label_of words c) ≡ false
  StatementStands words defined around scopes (Default token) = around.has_default ≡ false
  StatementStands words defined around scopes (Break token) = around.may_break ≡ true
  StatementStands words defined around scopes (Continue token) = around.in_loop ≡ true
  StatementStands words defined around scopes (Returns token value) = ReturnStands words defined scopes around.result value
  StatementStands words defined around scopes (Does effect) = EffectStands words defined scopes effect

  -- those in a row, each in the scopes that the ones before it leave
  pub StatementsStand : List Word → List ℕ → Around → List Scope → Statements → Type 0
  StatementsStand words defined around scopes Nothing = ⊤
  StatementsStand words defined around scopes (Then s rest) =
      StatementStands words defined around scopes s × StatementsStand words defined (around_after words around s) (scopes_after scopes s) rest
