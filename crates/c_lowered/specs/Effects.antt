-- What statements do without statements in them, lowered: calls, effects and declarations.
--   result_of program call     what the function of a call gives
--   calls_in_…                 how many calls of functions that give something stand in a part; each has a frame for its result
--   call_items within scopes call n rest    a call of number n, and `rest` after it
--   call_value within call n   what it gave, as an expression has it
--   store to value rest        a store, and `rest` after it
--   value_items within scopes value n made rest   the items of a value's call, if it is one, then the item that `made` makes of the value
--   effect_items, locals_items within scopes x n rest   those of an effect and of declared locals, whose calls are numbered from n on
use Rattle.std.specs.Prelude.{ℕ, zero, suc, ◌+◌, List, [], ◌∷◌, Option, Some, None, if◌then◌else◌}
use Rattle.std.specs.Option.{option_map_or}
use Rattle.alf_program.specs.Tree.{NamedExpression, Address, Load, Store, Call, BodyItem, Do}
use Rattle.c_unit.specs.declared.types.Integer.{Integer}
use Rattle.c_unit.specs.declared.types.Integer.TheVariants.{Int}
use Rattle.c_unit.specs.declared.types.Scalar.{Scalar}
use Rattle.c_unit.specs.declared.types.Scalar.TheVariants as scalars
use Rattle.c_unit.specs.declared.types.Outcome.{Outcome}
use Rattle.c_unit.specs.declared.types.Outcome.TheVariants as outcomes
use Rattle.c_unit.specs.declared.types.Constant.{Constant}
use Rattle.c_unit.specs.declared.expression.Binary.{Binary}
use Rattle.c_unit.specs.declared.external.Parameter.{Parameter}
use Rattle.c_unit.specs.Tree.{Expression, CallTree, ValueTree, OfExpression, OfCall, EffectTree, Assigns, Updates, Steps, Calls, LocalShapeTree, LocalInteger, LocalPointer, LocalArray, LocalTree}
use Rattle.c_rules.specs.Names.{Scope, text_at, worth_at}
use Rattle.c_rules.specs.Statements.{with_local}
use Rattle.c_meaning.specs.Values.{bits_of_type, bytes_of_type}
use Rattle.c_meaning.specs.Objects.{Program, function_at, count_at}
use Rattle.c_meaning.specs.Expressions.{kind_of}
use Rattle.c_meaning.specs.Statements.{callee, step_operator, further_elements}
use Rattle.c_lowered.specs.Names.{call_name, frame_of}
use Rattle.c_lowered.specs.Values.{whole, extended, cut, cut_to, binary_value, constant_of, of_one, size, value_of, address_of}
use Rattle.c_lowered.specs.Conditions.{Within}
use Rattle.alf_ops.specs.declared.operator.Op.TheVariants as ops

-- ---- calls

abbrev pub result_of : Program → CallTree → Outcome
result_of program call = (function_at program (callee program call)).result

abbrev pub calls_of_outcome : Outcome → ℕ
calls_of_outcome outcomes.Nothing = 0
calls_of_outcome (outcomes.Integer i) = 1

abbrev pub calls_in_call : Program → CallTree → ℕ
calls_in_call program call = calls_of_outcome (result_of program call)

-- each argument is converted to the type of its parameter
abbrev pub arguments : Program → List Scope → List Expression → List Parameter → List NamedExpression
arguments program scopes [] ps = []
arguments program scopes (e ∷ es) [] = value_of program scopes e ∷ arguments program scopes es []
arguments program scopes (e ∷ es) (p ∷ ps) = cut_to p.kind (value_of program scopes e) ∷ arguments program scopes es ps

abbrev pub result_frame : Outcome → List ℕ → Option (List ℕ × ℕ)
result_frame outcomes.Nothing name = None
result_frame (outcomes.Integer i) name = Some (name, 0)

abbrev pub call_items : Within → List Scope → CallTree → ℕ → List BodyItem → List BodyItem
call_items within scopes call n rest =
    Do (Call (text_at within.program.words call.name)
    (arguments within.program scopes call.arguments (function_at within.program (callee within.program call)).parameters)
    (result_frame (result_of within.program call) (call_name within.program within.function n))) ∷ rest

abbrev pub result_value : Outcome → List ℕ → NamedExpression
result_value outcomes.Nothing name = whole 0
result_value (outcomes.Integer i) name = extended i (Load (bits_of_type i) (Address name 0))

abbrev pub call_value : Within → CallTree → ℕ → NamedExpression
call_value within call n = result_value (result_of within.program call) (call_name within.program within.function n)

-- ---- values

abbrev pub calls_in_value : Program → ValueTree → ℕ
calls_in_value program (OfExpression e) = 0
calls_in_value program (OfCall call) = calls_in_call program call

-- a call comes first, and then what is done with the value
abbrev pub value_items : Within → List Scope → ValueTree → ℕ → (NamedExpression → BodyItem) → List BodyItem
    → List BodyItem
value_items within scopes (OfExpression e) n made rest = made (value_of within.program scopes e) ∷ rest
value_items within scopes (OfCall call) n made rest = call_items within scopes call n (made (call_value within call n) ∷ rest)

-- a value is stored as an object of the type has it
abbrev pub assign : Scalar → NamedExpression → NamedExpression → BodyItem
assign t at value = Do (Store at (cut_to t value))

-- ---- effects

abbrev pub calls_in_effect : Program → EffectTree → ℕ
calls_in_effect program (Assigns to token value) = calls_in_value program value
calls_in_effect program (Updates to op token e) = 0
calls_in_effect program (Steps operand up token) = 0
calls_in_effect program (Calls call) = calls_in_call program call

-- `x op= e` as `x = x op e`
abbrev pub update : Program → List Scope → Expression → Binary → Scalar → NamedExpression → BodyItem
update program scopes to op t r =
    assign (kind_of program.words scopes to) (address_of program scopes to)
    (binary_value op (kind_of program.words scopes to) t (value_of program scopes to) r)

abbrev pub effect_items : Within → List Scope → EffectTree → ℕ → List BodyItem → List BodyItem
effect_items within scopes (Assigns to token value) n rest =
    value_items within scopes value n (assign (kind_of within.program.words scopes to) (address_of within.program scopes to)) rest
effect_items within scopes (Updates to op token e) n rest =
    update within.program scopes to op (kind_of within.program.words scopes e) (value_of within.program scopes e) ∷ rest
effect_items within scopes (Steps operand up token) n rest = update within.program scopes operand (step_operator up) (scalars.Integer Int) (whole 1) ∷ rest
effect_items within scopes (Calls call) n rest = call_items within scopes call n rest

-- ---- declarations

abbrev pub calls_in_first : Program → Option ValueTree → ℕ
calls_in_first program first = option_map_or (calls_in_value program) first 0

abbrev pub calls_in_shape : Program → LocalShapeTree → ℕ
calls_in_shape program (LocalInteger first) = calls_in_first program first
calls_in_shape program (LocalPointer first) = calls_in_first program first
calls_in_shape program (LocalArray count firsts) = 0

abbrev pub calls_in_locals : Program → List LocalTree → ℕ
calls_in_locals program [] = 0
calls_in_locals program (local ∷ locals) = calls_in_shape program local.shape + calls_in_locals program locals

-- a constant as an expression, with its minus
abbrev pub constant_value : Program → Constant → NamedExpression
constant_value program c = if c.minus
    then of_one ops.Neg size (constant_of (worth_at program.words c.token))
    else constant_of (worth_at program.words c.token)

abbrev pub first_element : Program → List Constant → NamedExpression
first_element program [] = whole 0
first_element program (c ∷ cs) = constant_value program c

-- so many elements from an offset on; those without a constant are 0
abbrev pub element_items : Program → List ℕ → Integer → ℕ → ℕ → List Constant → List BodyItem → List BodyItem
element_items program name kind offset zero cs rest = rest
element_items program name kind offset (suc count) cs rest =
    Do (Store (Address name offset) (cut kind (first_element program cs)))
    ∷ element_items program name kind (offset + bytes_of_type kind) count (further_elements cs) rest

abbrev pub first_items : Within → List Scope → Scalar → List ℕ → Option ValueTree → ℕ → List BodyItem → List BodyItem
first_items within scopes t name None n rest = rest
first_items within scopes t name (Some value) n rest = value_items within scopes value n (assign t (Address name 0)) rest

abbrev pub array_items : Program → Integer → List ℕ → ℕ → Option (List Constant) → List BodyItem → List BodyItem
array_items program kind name token None rest = rest
array_items program kind name token (Some cs) rest = element_items program name kind 0 (count_at program.words token) cs rest

abbrev pub shape_items : Within → List Scope → Integer → List ℕ → LocalShapeTree → ℕ → List BodyItem → List BodyItem
shape_items within scopes kind name (LocalInteger first) n rest = first_items within scopes (scalars.Integer kind) name first n rest
shape_items within scopes kind name (LocalPointer first) n rest = first_items within scopes (scalars.Pointer kind) name first n rest
shape_items within scopes kind name (LocalArray count firsts) n rest = array_items within.program kind name count firsts rest

-- a local is known in its own initialiser
abbrev pub locals_items : Within → Integer → List Scope → List LocalTree → ℕ → List BodyItem → List BodyItem
locals_items within kind scopes [] n rest = rest
locals_items within kind scopes (local ∷ locals) n rest =
    shape_items within (with_local kind scopes local) kind (frame_of within.program local.name) local.shape n
    (locals_items within kind (with_local kind scopes local) locals (n + calls_in_shape within.program local.shape) rest)
