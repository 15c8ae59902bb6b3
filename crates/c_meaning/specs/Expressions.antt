-- What expressions give after a history.
--   kind_of words scopes e    the type of an expression; in a program each has one
--   place_of program scopes token   the object that a name means
--   loaded program history t place  what an object of the type holds there, as an expression has it
--   value_of program scopes history e     the value of an expression, or its first fault, operands from left to right and then their operator
--   address_of program scopes history e   where the object lies that an expression designates
--   condition_of program scopes history e   whether a condition holds
use Rattle.std.specs.Prelude.{ℕ, Bool, List, Option, Some, None, Result, Ok, Err}
use Rattle.std.specs.Option.{option_map_or}
use Rattle.alf_ops.specs.declared.history.Value.{Value}
use Rattle.alf_ops.specs.declared.history.Value.TheVariants as values
use Rattle.alf_ops.specs.declared.history.RunFault.{RunFault}
use Rattle.alf_ops.specs.declared.history.RunFault.TheVariants as faults
use Rattle.alf_ops.specs.declared.history.RunEvent.{RunEvent}
use Rattle.alf_ops.specs.Histories.{load}
use Rattle.c_unit.specs.declared.types.Integer.{Integer}
use Rattle.c_unit.specs.declared.types.Integer.TheVariants.{Int}
use Rattle.c_unit.specs.declared.types.Scalar.{Scalar}
use Rattle.c_unit.specs.declared.types.Scalar.TheVariants as scalars
use Rattle.c_unit.specs.declared.expression.Unary.{Unary}
use Rattle.c_unit.specs.declared.expression.Unary.TheVariants as unary
use Rattle.c_unit.specs.Tree.{Expression, OfConstant, OfName, InParentheses, WithUnary, WithCast, AtIndex, WithBinary}
use Rattle.c_unit.specs.Units.{Word}
use Rattle.c_rules.specs.Names.{Bound, Variable, Array, Function, Entry, Scope, worth_at, number_of, look_up}
use Rattle.c_rules.specs.Expressions.{type_of}
use Rattle.c_meaning.specs.Values.{Valued, on_value, on_both, widened, cast_to, negation, complement, opposite, sum, scaled, truth_of, binary_value, bits_of_type}
use Rattle.c_meaning.specs.Objects.{Program, object_at, shapes_of}

-- ---- types

abbrev pub kind_of : List Word → List Scope → Expression → Scalar
kind_of words scopes e = option_map_or (λ t. t) (type_of words scopes e) (scalars.Integer Int)

-- the type of what a pointer leads to
abbrev pub pointee : Scalar → Integer
pointee (scalars.Integer i) = i
pointee (scalars.Pointer i) = i

-- ---- objects

-- the token that declares what a name means
abbrev pub declared_at : Option Entry → ℕ → ℕ
declared_at found token = option_map_or (λ (e : Entry). e.token) found token

abbrev pub place_of : Program → List Scope → ℕ → Value
place_of program scopes token = values.Ptr (object_at program.objects (declared_at (look_up program.words scopes token) token)) 0

abbrev pub loaded : Program → List RunEvent → Scalar → Value → Valued
loaded program history (scalars.Integer i) place = on_value (widened i) (load (shapes_of program) history place (bits_of_type i))
loaded program history (scalars.Pointer i) place = load (shapes_of program) history place 32

-- a variable gives what it holds, and an array where its first element lies
abbrev pub bound_value : Program → List RunEvent → Bound → Value → Valued
bound_value program history (Variable t) place = loaded program history t place
bound_value program history (Array i) place = Ok place
bound_value program history (Function o ps) place = Err faults.Kind

abbrev pub name_value : Program → List RunEvent → Option Entry → Value → Valued
name_value program history None place = Err faults.Dead
name_value program history (Some e) place = bound_value program history e.bound place

-- ---- values

-- `value` is what the operand gives, and `place` where the object lies that it designates
abbrev pub unary_value : Program → List RunEvent → Unary → Scalar → Valued → Valued → Valued
unary_value program history unary.Not t value place = on_value opposite value
unary_value program history unary.Complement t value place = on_value complement value
unary_value program history unary.Minus t value place = on_value negation value
unary_value program history unary.Plus t value place = value
unary_value program history unary.Load t value place = on_value (loaded program history (scalars.Integer (pointee t))) value
unary_value program history unary.Address t value place = place

-- a `*e` designates what its pointer leads to, and other operators designate nothing
abbrev pub unary_address : Unary → Valued → Valued
unary_address unary.Not value = Err faults.Kind
unary_address unary.Complement value = Err faults.Kind
unary_address unary.Minus value = Err faults.Kind
unary_address unary.Plus value = Err faults.Kind
unary_address unary.Load value = value
unary_address unary.Address value = Err faults.Kind

-- so many elements after the base
abbrev pub element_address : Scalar → Valued → Valued → Valued
element_address t base index = on_both sum base (scaled (pointee t) index)

abbrev mutual
  pub value_of : Program → List Scope → List RunEvent → Expression → Valued
  value_of program scopes history (OfConstant token) = Ok (values.Int 32 (number_of (worth_at program.words token)))
  value_of program scopes history (OfName token) = name_value program history (look_up program.words scopes token) (place_of program scopes token)
  value_of program scopes history (InParentheses token inner) = value_of program scopes history inner
  value_of program scopes history (WithUnary op token operand) =
      unary_value program history op (kind_of program.words scopes operand) (value_of program scopes history operand) (address_of program scopes history operand)
  value_of program scopes history (WithCast token to operand) = on_value (cast_to to) (value_of program scopes history operand)
  value_of program scopes history (AtIndex base token index) =
      on_value (loaded program history (scalars.Integer (pointee (kind_of program.words scopes base))))
      (element_address (kind_of program.words scopes base) (value_of program scopes history base) (value_of program scopes history index))
  value_of program scopes history (WithBinary op token left right) =
      binary_value op (kind_of program.words scopes left) (kind_of program.words scopes right)
      (value_of program scopes history left) (value_of program scopes history right)

  pub address_of : Program → List Scope → List RunEvent → Expression → Valued
  address_of program scopes history (OfConstant token) = Err faults.Kind
  address_of program scopes history (OfName token) = Ok (place_of program scopes token)
  address_of program scopes history (InParentheses token inner) = address_of program scopes history inner
  address_of program scopes history (WithUnary op token operand) = unary_address op (value_of program scopes history operand)
  address_of program scopes history (WithCast token to operand) = Err faults.Kind
  address_of program scopes history (AtIndex base token index) =
      element_address (kind_of program.words scopes base) (value_of program scopes history base) (value_of program scopes history index)
  address_of program scopes history (WithBinary op token left right) = Err faults.Kind

abbrev pub condition_of : Program → List Scope → List RunEvent → Expression → Result Bool RunFault
condition_of program scopes history e = truth_of (value_of program scopes history e)
