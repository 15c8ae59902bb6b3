-- Faults of statements, in the order of the text.
--   Around                what stands around a statement: what the function gives, loops, switches, and the labels of the innermost switch so far
--   array_faults words size firsts   an array of no elements, or more initialisers than elements
--   locals_faults words defined kind scopes locals   faults of declared locals, each known from its declarator on
--   with_locals kind scopes locals   the scopes after them
--   effect_faults words defined scopes effect        faults of what a statement does
--   statement_faults words defined around scopes s   faults of a statement, and statements_faults of those in a row
--   scopes_after scopes s, around_after words around s   what the next statement in the row sees
use Rattle.std.specs.Prelude.{ℕ, ◌-◌, ◌%◌, ◌==◌, Bool, true, false, not, List, [], ◌∷◌, ◌++◌, Option, Some, None, slice_get, if◌then◌else◌}
use Rattle.std.specs.Option.{option_map_or}
use Rattle.std.specs.List.{list_any}
use Rattle.c_unit.specs.declared.types.Integer.{Integer}
use Rattle.c_unit.specs.declared.types.Scalar.{Scalar}
use Rattle.c_unit.specs.declared.types.Scalar.TheVariants as scalars
use Rattle.c_unit.specs.declared.types.Outcome.{Outcome}
use Rattle.c_unit.specs.declared.types.Outcome.TheVariants as outcomes
use Rattle.c_unit.specs.declared.types.Constant.{Constant}
use Rattle.c_unit.specs.declared.expression.Binary.{Binary}
use Rattle.c_unit.specs.Tree.{Expression, ValueTree, EffectTree, Assigns, Updates, Steps, Calls, LocalShapeTree, LocalInteger, LocalPointer, LocalArray, LocalTree, Statement, Empty, Declares, Block, If, IfElse, While, Do, For, ForAfter, Switch, Case, Default, Break, Continue, Returns, Does, Statements, Nothing, Then}
use Rattle.c_unit.specs.Measures.{first_of}
use Rattle.c_unit.specs.Units.{Word}
use Rattle.c_rules.specs.Faults.{Fault, Duplicate, Mistyped, when}
use Rattle.c_rules.specs.Types.{suits, binary_type}
use Rattle.c_rules.specs.Names.{Bound, Variable, Array, Scope, worth_at, number_of, is_declared, innermost, with_name}
use Rattle.c_rules.specs.Expressions.{type_of, faults_of, condition_faults, target_type, target_faults}
use Rattle.c_rules.specs.Calls.{Dropped, call_faults, value_faults}

-- ---- declarations

-- a name that stands in the scope already
abbrev pub twice_faults : List Word → Scope → ℕ → List Fault
twice_faults words scope token = when (is_declared words scope token) (Duplicate token)

-- the minus of a constant stands right before it
abbrev pub first_of_constant : Constant → ℕ
first_of_constant c = if c.minus then c.token - 1 else c.token

-- the first initialiser for which there is no element
abbrev pub too_many : Option Constant → List Fault
too_many None = []
too_many (Some c) = Mistyped (first_of_constant c) ∷ []

abbrev pub initialiser_faults : ℕ → Option (List Constant) → List Fault
initialiser_faults count None = []
initialiser_faults count (Some firsts) = too_many (slice_get firsts count)

abbrev pub array_faults : List Word → ℕ → Option (List Constant) → List Fault
array_faults words size firsts = when (number_of (worth_at words size) == 0) (Mistyped size) ++ initialiser_faults (number_of (worth_at words size)) firsts

abbrev pub local_bound : Integer → LocalShapeTree → Bound
local_bound kind (LocalInteger first) = Variable (scalars.Integer kind)
local_bound kind (LocalPointer first) = Variable (scalars.Pointer kind)
local_bound kind (LocalArray size firsts) = Array kind

-- the scopes once the local is declared
abbrev pub with_local : Integer → List Scope → LocalTree → List Scope
with_local kind scopes local = with_name (record { token = local.name; bound = local_bound kind local.shape }) scopes

abbrev pub with_locals : Integer → List Scope → List LocalTree → List Scope
with_locals kind scopes [] = scopes
with_locals kind scopes (local ∷ locals) = with_locals kind (with_local kind scopes local) locals

abbrev pub first_value_faults : List Word → List ℕ → List Scope → Scalar → Option ValueTree → List Fault
first_value_faults words defined scopes wanted None = []
first_value_faults words defined scopes wanted (Some value) = value_faults words defined scopes (Some wanted) value

abbrev pub shape_faults : List Word → List ℕ → List Scope → Integer → LocalShapeTree → List Fault
shape_faults words defined scopes kind (LocalInteger first) = first_value_faults words defined scopes (scalars.Integer kind) first
shape_faults words defined scopes kind (LocalPointer first) = first_value_faults words defined scopes (scalars.Pointer kind) first
shape_faults words defined scopes kind (LocalArray size firsts) = array_faults words size firsts

-- a local is known in its own initialiser
abbrev pub locals_faults : List Word → List ℕ → Integer → List Scope → List LocalTree → List Fault
locals_faults words defined kind scopes [] = []
locals_faults words defined kind scopes (local ∷ locals) =
    twice_faults words (innermost scopes) local.name ++ (shape_faults words defined (with_local kind scopes local) kind local.shape
    ++ locals_faults words defined kind (with_local kind scopes local) locals)

-- ---- effects

-- `x op= e` is typed as `x = x op e`, and wrong at x
abbrev pub updated : Scalar → Option Scalar → Bool
updated wanted given = option_map_or (λ t. suits wanted t) given false

abbrev pub update_faults : Binary → Option Scalar → Option Scalar → ℕ → List Fault
update_faults op None r token = []
update_faults op (Some t) None token = []
update_faults op (Some t) (Some r) token = when (not (updated t (binary_type op t r))) (Mistyped token)

abbrev pub effect_faults : List Word → List ℕ → List Scope → EffectTree → List Fault
effect_faults words defined scopes (Assigns to token value) = target_faults words scopes to ++ value_faults words defined scopes (target_type words scopes to) value
effect_faults words defined scopes (Updates to op token e) =
    target_faults words scopes to ++ (faults_of words scopes e ++ update_faults op (target_type words scopes to) (type_of words scopes e) (first_of to))
effect_faults words defined scopes (Steps operand up token) = target_faults words scopes operand
effect_faults words defined scopes (Calls call) = call_faults words defined scopes Dropped call

-- ---- what stands around a statement

pub record Around : Type 0 where
  pub result : Outcome
  pub in_loop : Bool
  pub may_break : Bool
  pub labels : List ℕ
  pub has_default : Bool

abbrev pub in_function : Outcome → Around
in_function result = record { result = result; in_loop = false; may_break = false; labels = []; has_default = false }

-- in a part of a statement, where the labels of a switch do not stand
abbrev pub inside : Around → Around
inside around = record around { labels = []; has_default = false }

abbrev pub in_loop_of : Around → Around
in_loop_of around = record around { in_loop = true; may_break = true; labels = []; has_default = false }

abbrev pub in_switch_of : Around → Around
in_switch_of around = record around { may_break = true; labels = []; has_default = false }

-- what a label is worth, as 32 bits: constants are converted to the promoted type of the switch
abbrev pub label_of : List Word → Constant → ℕ
label_of words c = if c.minus then (4294967296 - number_of (worth_at words c.token)) % 4294967296 else number_of (worth_at words c.token)

abbrev pub is_label : List ℕ → ℕ → Bool
is_label labels n = list_any (λ other. other == n) labels

abbrev pub around_after : List Word → Around → Statement → Around
around_after words around (Case token c) = record around { labels = label_of words c ∷ around.labels }
around_after words around (Default token) = record around { has_default = true }
around_after words around _ = around

abbrev pub scopes_after : List Scope → Statement → List Scope
scopes_after scopes (Declares first kind locals) = with_locals kind scopes locals
scopes_after scopes _ = scopes

-- ---- statements

-- `return` against its function, and what is returned
abbrev pub return_faults : List Word → List ℕ → List Scope → Outcome → ℕ → Option ValueTree → List Fault
return_faults words defined scopes outcomes.Nothing token None = []
return_faults words defined scopes outcomes.Nothing token (Some value) = Mistyped token ∷ value_faults words defined scopes None value
return_faults words defined scopes (outcomes.Integer i) token None = Mistyped token ∷ []
return_faults words defined scopes (outcomes.Integer i) token (Some value) = value_faults words defined scopes (Some (scalars.Integer i)) value

abbrev pub if_condition : List Word → List Scope → Option Expression → List Fault
if_condition words scopes None = []
if_condition words scopes (Some e) = condition_faults words scopes e

abbrev pub if_effect : List Word → List ℕ → List Scope → Option EffectTree → List Fault
if_effect words defined scopes None = []
if_effect words defined scopes (Some effect) = effect_faults words defined scopes effect

abbrev mutual
  pub statement_faults : List Word → List ℕ → Around → List Scope → Statement → List Fault
  statement_faults words defined around scopes (Empty token) = []
  statement_faults words defined around scopes (Declares first kind locals) = locals_faults words defined kind scopes locals
  statement_faults words defined around scopes (Block body) = statements_faults words defined (inside around) ([] ∷ scopes) body
  statement_faults words defined around scopes (If condition body) = condition_faults words scopes condition ++ statement_faults words defined (inside around) ([] ∷ scopes) body
  statement_faults words defined around scopes (IfElse condition body otherwise) =
      condition_faults words scopes condition ++ (statement_faults words defined (inside around) ([] ∷ scopes) body ++ statement_faults words defined (inside around) ([] ∷ scopes) otherwise)
  statement_faults words defined around scopes (While condition body) = condition_faults words scopes condition ++ statement_faults words defined (in_loop_of around) ([] ∷ scopes) body
  statement_faults words defined around scopes (Do body condition) = statement_faults words defined (in_loop_of around) ([] ∷ scopes) body ++ condition_faults words scopes condition
  statement_faults words defined around scopes (For condition after body) =
      if_condition words scopes condition ++ (if_effect words defined scopes after ++ statement_faults words defined (in_loop_of around) ([] ∷ scopes) body)
  statement_faults words defined around scopes (ForAfter first condition after body) =
      statement_faults words defined (inside around) ([] ∷ scopes) first ++ (if_condition words (scopes_after ([] ∷ scopes) first) condition
      ++ (if_effect words defined (scopes_after ([] ∷ scopes) first) after ++ statement_faults words defined (in_loop_of around) ([] ∷ scopes_after ([] ∷ scopes) first) body))
  statement_faults words defined around scopes (Switch value body) = condition_faults words scopes value ++ statements_faults words defined (in_switch_of around) ([] ∷ scopes) body
  statement_faults words defined around scopes (Case token c) = when (is_label around.labels (label_of words c)) (Mistyped token)
  statement_faults words defined around scopes (Default token) = when around.has_default (Mistyped token)
  statement_faults words defined around scopes (Break token) = when (not around.may_break) (Mistyped token)
  statement_faults words defined around scopes (Continue token) = when (not around.in_loop) (Mistyped token)
  statement_faults words defined around scopes (Returns token value) = return_faults words defined scopes around.result token value
  statement_faults words defined around scopes (Does effect) = effect_faults words defined scopes effect

  -- those in a row, each in the scopes that the ones before it leave
  pub statements_faults : List Word → List ℕ → Around → List Scope → Statements → List Fault
  statements_faults words defined around scopes Nothing = []
  statements_faults words defined around scopes (Then s rest) =
      statement_faults words defined around scopes s ++ statements_faults words defined (around_after words around s) (scopes_after scopes s) rest
