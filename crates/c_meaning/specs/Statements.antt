-- What statements do, where each loop makes at most so many turns at each of its executions.
--   Setting                a program, what the function gives, the number of turns, and what a call of each function does
--   called setting scopes call history go       a call: its arguments, then the function; goes on with what it gave
--   valued setting scopes value history go      goes on with the value of an expression or of a call
--   effect_done, locals_done, statement_done setting scopes s history   what an effect, declared locals and a statement do
--   statements_done setting scopes ss history   statements in a row, each in the scopes that the ones before it leave
--   from_label setting scopes is_here ss history   what comes after the label of a switch that is told, if it is there
use Rattle.std.specs.Prelude.{ℕ, zero, suc, ℤ, pos, Bool, true, false, ◌+◌, ◌==◌, List, [], ◌∷◌, Option, Some, None, Result, Ok, Err, neg_ℤ, if◌then◌else◌}
use Rattle.std.specs.Str.{bytes_eq}
use Rattle.alf_ops.specs.declared.history.Value.{Value}
use Rattle.alf_ops.specs.declared.history.Value.TheVariants as values
use Rattle.alf_ops.specs.declared.history.RunFault.{RunFault}
use Rattle.alf_ops.specs.declared.history.RunFault.TheVariants as faults
use Rattle.alf_ops.specs.Histories.{store}
use Rattle.alf_ops.specs.Pointers.{operands}
use Rattle.alf_ops.specs.TwosComplement.{word}
use Rattle.c_unit.specs.declared.types.Integer.{Integer}
use Rattle.c_unit.specs.declared.types.Integer.TheVariants as integers
use Rattle.c_unit.specs.declared.types.Scalar.{Scalar}
use Rattle.c_unit.specs.declared.types.Scalar.TheVariants as scalars
use Rattle.c_unit.specs.declared.types.Outcome.{Outcome}
use Rattle.c_unit.specs.declared.types.Outcome.TheVariants as outcomes
use Rattle.c_unit.specs.declared.types.Constant.{Constant}
use Rattle.c_unit.specs.declared.expression.Binary.{Binary}
use Rattle.c_unit.specs.declared.expression.Binary.TheVariants as binary
use Rattle.c_unit.specs.declared.external.Parameter.{Parameter}
use Rattle.c_unit.specs.Tree.{Expression, CallTree, ValueTree, OfExpression, OfCall, EffectTree, Assigns, Updates, Steps, Calls, LocalShapeTree, LocalInteger, LocalPointer, LocalArray, LocalTree, Statement, Empty, Declares, Block, If, IfElse, While, Do, For, ForAfter, Switch, Case, Default, Break, Continue, Returns, Does, Statements, Nothing, Then}
use Rattle.c_unit.specs.Units.{Word}
use Rattle.c_rules.specs.Names.{Scope, worth_at, number_of, text_at}
use Rattle.c_rules.specs.Statements.{with_local, scopes_after, label_of}
use Rattle.c_meaning.specs.Values.{Valued, on_value, widened, cut_to, binary_value, bits_of_type, bytes_of_type}
use Rattle.c_meaning.specs.Objects.{Program, Function, object_at, shapes_of, function_at, count_at}
use Rattle.c_meaning.specs.Expressions.{kind_of, value_of, address_of, condition_of}
use Rattle.c_meaning.specs.Endings.{History, Ending, Normal, Broke, Continued, Returned, Faulted, after, then_do, after_switch, after_call, by_truth, with_values, turns, rounds}

-- what a call of a function with these values does after a history
abbrev pub Callees : Type 0
Callees = ℕ → List Value → History → Ending

pub record Setting : Type 0 where
  pub program : Program
  pub result : Outcome
  pub turns : ℕ
  pub callees : Callees

-- ---- stores

-- the address faults first, then the value, and then the store
abbrev pub stored : Program → History → Valued → Valued → Result History RunFault
stored program history (Err fault) value = Err fault
stored program history (Ok place) (Err fault) = Err fault
stored program history (Ok place) (Ok value) = store (shapes_of program) history place value

-- a value is stored as an object of the type has it
abbrev pub assigned : Program → Scalar → History → Valued → Valued → Ending
assigned program t history place value = after (stored program history place (on_value (cut_to t) value))

-- ---- calls

-- the number of the function of this name
abbrev pub number_named : List Word → List Function → List ℕ → ℕ
number_named words [] name = 0
number_named words (f ∷ fs) name = if bytes_eq (text_at words f.name) name then 0 else number_named words fs name + 1

abbrev pub callee : Program → CallTree → ℕ
callee program call = number_named program.words program.functions (text_at program.words call.name)

-- each argument is converted to the type of its parameter
abbrev pub arguments : Program → List Scope → History → List Expression → List Parameter → List Valued
arguments program scopes history [] ps = []
arguments program scopes history (e ∷ es) [] = value_of program scopes history e ∷ arguments program scopes history es []
arguments program scopes history (e ∷ es) (p ∷ ps) = on_value (cut_to p.kind) (value_of program scopes history e) ∷ arguments program scopes history es ps

abbrev pub called : Setting → List Scope → CallTree → History → (Option Value → History → Ending) → Ending
called setting scopes call history go =
    with_values (operands (arguments setting.program scopes history call.arguments (function_at setting.program (callee setting.program call)).parameters))
    (λ values. after_call (setting.callees (callee setting.program call) values history) go)

-- what a function gave, as an expression has it
abbrev pub given : Outcome → Option Value → Valued
given outcomes.Nothing value = Err faults.Kind
given (outcomes.Integer i) None = Err faults.Kind
given (outcomes.Integer i) (Some value) = widened i value

abbrev pub valued : Setting → List Scope → ValueTree → History → (Valued → History → Ending) → Ending
valued setting scopes (OfExpression e) history go = go (value_of setting.program scopes history e) history
valued setting scopes (OfCall call) history go =
    called setting scopes call history (λ value later. go (given (function_at setting.program (callee setting.program call)).result value) later)

-- ---- effects

abbrev pub one : Valued
one = Ok (values.Int 32 1)

abbrev pub step_operator : Bool → Binary
step_operator true = binary.Add
step_operator false = binary.Subtract

-- `x op= e` as `x = x op e`
abbrev pub updated : Program → List Scope → Expression → Binary → Scalar → Valued → History → Ending
updated program scopes to op t r history =
    assigned program (kind_of program.words scopes to) history (address_of program scopes history to)
    (binary_value op (kind_of program.words scopes to) t (value_of program scopes history to) r)

-- after a call the address comes, and it comes before a value that is no call
abbrev pub effect_done : Setting → List Scope → EffectTree → History → Ending
effect_done setting scopes (Assigns to token value) history =
    valued setting scopes value history
    (λ v later. assigned setting.program (kind_of setting.program.words scopes to) later (address_of setting.program scopes later to) v)
effect_done setting scopes (Updates to op token e) history =
    updated setting.program scopes to op (kind_of setting.program.words scopes e) (value_of setting.program scopes history e) history
effect_done setting scopes (Steps operand up token) history =
    updated setting.program scopes operand (step_operator up) (scalars.Integer integers.Int) one history
effect_done setting scopes (Calls call) history = called setting scopes call history (λ value later. Normal later)

-- ---- declarations

abbrev pub constant_number : List Word → Constant → ℤ
constant_number words c = if c.minus then neg_ℤ (pos (number_of (worth_at words c.token))) else pos (number_of (worth_at words c.token))

-- a constant as an object of the type has it
abbrev pub constant_value : List Word → Integer → Constant → Value
constant_value words kind c = values.Int (bits_of_type kind) (word (bits_of_type kind) (constant_number words c))

abbrev pub zero_value : Integer → Value
zero_value kind = values.Int (bits_of_type kind) 0

abbrev pub first_element : List Word → Integer → List Constant → Value
first_element words kind [] = zero_value kind
first_element words kind (c ∷ cs) = constant_value words kind c

abbrev pub further_elements : List Constant → List Constant
further_elements [] = []
further_elements (c ∷ cs) = cs

-- so many elements from an offset on are stored in order; those without a constant are 0
abbrev pub elements_stored : Program → ℕ → Integer → ℕ → ℕ → List Constant → History → Ending
elements_stored program object kind offset zero cs history = Normal history
elements_stored program object kind offset (suc count) cs history =
    then_do (after (store (shapes_of program) history (values.Ptr object offset) (first_element program.words kind cs)))
    (elements_stored program object kind (offset + bytes_of_type kind) count (further_elements cs))

abbrev pub first_value : Setting → List Scope → Scalar → ℕ → Option ValueTree → History → Ending
first_value setting scopes t object None history = Normal history
first_value setting scopes t object (Some value) history =
    valued setting scopes value history (λ v later. assigned setting.program t later (Ok (values.Ptr object 0)) v)

abbrev pub first_elements : Program → Integer → ℕ → ℕ → Option (List Constant) → History → Ending
first_elements program kind object size None history = Normal history
first_elements program kind object size (Some cs) history = elements_stored program object kind 0 (count_at program.words size) cs history

abbrev pub shape_done : Setting → List Scope → Integer → ℕ → LocalShapeTree → History → Ending
shape_done setting scopes kind object (LocalInteger first) history = first_value setting scopes (scalars.Integer kind) object first history
shape_done setting scopes kind object (LocalPointer first) history = first_value setting scopes (scalars.Pointer kind) object first history
shape_done setting scopes kind object (LocalArray size firsts) history = first_elements setting.program kind object size firsts history

-- a local is known in its own initialiser
abbrev pub locals_done : Setting → Integer → List Scope → List LocalTree → History → Ending
locals_done setting kind scopes [] history = Normal history
locals_done setting kind scopes (local ∷ locals) history =
    then_do (shape_done setting (with_local kind scopes local) kind (object_at setting.program.objects local.name) local.shape history)
    (locals_done setting kind (with_local kind scopes local) locals)

-- ---- statements

-- a condition that is not there holds
abbrev pub condition_if : Program → List Scope → Option Expression → History → Result Bool RunFault
condition_if program scopes None history = Ok true
condition_if program scopes (Some e) history = condition_of program scopes history e

abbrev pub effect_if : Setting → List Scope → Option EffectTree → History → Ending
effect_if setting scopes None history = Normal history
effect_if setting scopes (Some effect) history = effect_done setting scopes effect history

abbrev pub some_of : Valued → Result (Option Value) RunFault
some_of (Ok value) = Ok (Some value)
some_of (Err fault) = Err fault

-- a value is returned as the function gives it
abbrev pub as_result : Outcome → Value → Result (Option Value) RunFault
as_result outcomes.Nothing value = Ok None
as_result (outcomes.Integer i) value = some_of (cut_to (scalars.Integer i) value)

abbrev pub returned_so : Result (Option Value) RunFault → History → Ending
returned_so (Ok value) history = Returned value history
returned_so (Err fault) history = Faulted fault

abbrev pub returned : Outcome → Valued → History → Ending
returned o (Ok value) history = returned_so (as_result o value) history
returned o (Err fault) history = Faulted fault

abbrev pub return_done : Setting → List Scope → Option ValueTree → History → Ending
return_done setting scopes None history = Returned None history
return_done setting scopes (Some value) history = valued setting scopes value history (returned setting.result)

-- ---- labels

abbrev pub is_case : List Word → ℕ → Statement → Bool
is_case words v (Case token c) = label_of words c == v
is_case words v _ = false

abbrev pub is_default : Statement → Bool
is_default (Default token) = true
is_default _ = false

-- the label of the value decides, then the default; without one nothing is done
abbrev pub by_labels : Option Ending → Option Ending → History → Ending
by_labels (Some e) otherwise history = e
by_labels None (Some e) history = e
by_labels None None history = Normal history

-- a pointer is no value of a switch
abbrev pub with_word : Valued → (ℕ → Ending) → Ending
with_word (Ok (values.Int size w)) go = go w
with_word (Ok (values.Ptr object offset)) go = Faulted faults.Kind
with_word (Err fault) go = Faulted fault

abbrev mutual
  pub statement_done : Setting → List Scope → Statement → History → Ending
  statement_done setting scopes (Empty token) history = Normal history
  statement_done setting scopes (Declares first kind locals) history = locals_done setting kind scopes locals history
  statement_done setting scopes (Block body) history = statements_done setting ([] ∷ scopes) body history
  statement_done setting scopes (If condition body) history =
      by_truth (condition_of setting.program scopes history condition) (statement_done setting ([] ∷ scopes) body history) (Normal history)
  statement_done setting scopes (IfElse condition body otherwise) history =
      by_truth (condition_of setting.program scopes history condition) (statement_done setting ([] ∷ scopes) body history)
      (statement_done setting ([] ∷ scopes) otherwise history)
  statement_done setting scopes (While condition body) history =
      turns setting.turns (λ h. condition_of setting.program scopes h condition) (statement_done setting ([] ∷ scopes) body) Normal history
  statement_done setting scopes (Do body condition) history =
      rounds setting.turns (statement_done setting ([] ∷ scopes) body) (λ h. condition_of setting.program scopes h condition) history
  statement_done setting scopes (For condition last body) history =
      turns setting.turns (condition_if setting.program scopes condition) (statement_done setting ([] ∷ scopes) body) (effect_if setting scopes last) history
  statement_done setting scopes (ForAfter first condition last body) history =
      then_do (statement_done setting ([] ∷ scopes) first history)
      (turns setting.turns (condition_if setting.program (scopes_after ([] ∷ scopes) first) condition)
      (statement_done setting ([] ∷ scopes_after ([] ∷ scopes) first) body) (effect_if setting (scopes_after ([] ∷ scopes) first) last))
  statement_done setting scopes (Switch value body) history =
      with_word (value_of setting.program scopes history value)
      (λ w. after_switch (by_labels (from_label setting ([] ∷ scopes) (is_case setting.program.words w) body history)
      (from_label setting ([] ∷ scopes) is_default body history) history))
  statement_done setting scopes (Case token c) history = Normal history
  statement_done setting scopes (Default token) history = Normal history
  statement_done setting scopes (Break token) history = Broke history
  statement_done setting scopes (Continue token) history = Continued history
  statement_done setting scopes (Returns token value) history = return_done setting scopes value history
  statement_done setting scopes (Does effect) history = effect_done setting scopes effect history

  pub statements_done : Setting → List Scope → Statements → History → Ending
  statements_done setting scopes Nothing history = Normal history
  statements_done setting scopes (Then s rest) history = then_do (statement_done setting scopes s history) (statements_done setting (scopes_after scopes s) rest)

  -- what comes after the first statement of which the test holds
  pub from_label : Setting → List Scope → (Statement → Bool) → Statements → History → Option Ending
  from_label setting scopes is_here Nothing history = None
  from_label setting scopes is_here (Then s rest) history =
      if is_here s then Some (statements_done setting (scopes_after scopes s) rest history) else from_label setting (scopes_after scopes s) is_here rest history
