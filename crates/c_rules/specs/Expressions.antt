-- Types and faults of expressions.
--   value_type b              what a name is as a value: an array is a pointer to its element type, and a function is none
--   designates words scopes e   the expression may be assigned to: a variable, an indexed element or what a pointer leads to
--   type_of words scopes e    the type of the expression, where nothing in it is wrong
--   faults_of words scopes e  its faults, in the order of the text: those of the operands, then that of their operator
--   unsuited wanted t token   the type does not suit where one is wanted
--   wanted_faults words scopes wanted e   the faults of an expression where such a type is wanted, which is wrong itself where its type does not suit
--   condition_faults words scopes e       those of a condition
--   target_type, target_faults words scopes e   what is assigned
use Rattle.std.specs.Prelude.{ℕ, Bool, true, false, not, ◌&&◌, List, [], ◌∷◌, ◌++◌, Option, Some, None, if◌then◌else◌}
use Rattle.std.specs.Option.{is_some, option_and_then}
use Rattle.c_unit.specs.declared.types.Integer.TheVariants.{Int}
use Rattle.c_unit.specs.declared.types.Scalar.{Scalar}
use Rattle.c_unit.specs.declared.types.Scalar.TheVariants as scalars
use Rattle.c_unit.specs.declared.expression.Unary.{Unary}
use Rattle.c_unit.specs.declared.expression.Unary.TheVariants as unary
use Rattle.c_unit.specs.declared.expression.Binary.{Binary}
use Rattle.c_unit.specs.declared.expression.Binary.TheVariants as binary
use Rattle.c_unit.specs.Tree.{Expression, OfConstant, OfName, InParentheses, WithUnary, WithCast, AtIndex, WithBinary}
use Rattle.c_unit.specs.Measures.{first_of}
use Rattle.c_unit.specs.Units.{Word}
use Rattle.c_rules.specs.Faults.{Fault, Unknown, Mistyped, when}
use Rattle.c_rules.specs.Types.{suits, unary_type, cast_type, index_type, binary_type}
use Rattle.c_rules.specs.Names.{Bound, Variable, Array, Function, Entry, Scope, worth_at, constant_type, look_up}

-- ---- names

abbrev pub value_type : Bound → Option Scalar
value_type (Variable t) = Some t
value_type (Array i) = Some (scalars.Pointer i)
value_type (Function o ps) = None

abbrev pub is_variable : Bound → Bool
is_variable (Variable t) = true
is_variable (Array i) = false
is_variable (Function o ps) = false

abbrev pub type_at : Option Entry → Option Scalar
type_at None = None
type_at (Some e) = value_type e.bound

-- an unknown name, or that of a function, which stands in calls alone
abbrev pub name_faults : ℕ → Option Entry → List Fault
name_faults token None = Unknown token ∷ []
name_faults token (Some e) = when (not (is_some (value_type e.bound))) (Mistyped token)

abbrev pub is_variable_at : Option Entry → Bool
is_variable_at None = false
is_variable_at (Some e) = is_variable e.bound

-- ---- types

abbrev pub is_load : Unary → Bool
is_load unary.Load = true
is_load op = false

abbrev pub designates : List Word → List Scope → Expression → Bool
designates words scopes (OfConstant token) = false
designates words scopes (OfName token) = is_variable_at (look_up words scopes token)
designates words scopes (InParentheses token inner) = designates words scopes inner
designates words scopes (WithUnary op token operand) = is_load op
designates words scopes (WithCast token to operand) = false
designates words scopes (AtIndex base token index) = true
designates words scopes (WithBinary op token left right) = false

abbrev pub on_both : (Scalar → Scalar → Option Scalar) → Option Scalar → Option Scalar → Option Scalar
on_both gives l r = option_and_then (λ a. option_and_then (λ b. gives a b) r) l

abbrev pub type_of : List Word → List Scope → Expression → Option Scalar
type_of words scopes (OfConstant token) = Some (constant_type (worth_at words token))
type_of words scopes (OfName token) = type_at (look_up words scopes token)
type_of words scopes (InParentheses token inner) = type_of words scopes inner
type_of words scopes (WithUnary op token operand) = option_and_then (unary_type op (designates words scopes operand)) (type_of words scopes operand)
type_of words scopes (WithCast token to operand) = option_and_then (cast_type to) (type_of words scopes operand)
type_of words scopes (AtIndex base token index) = on_both index_type (type_of words scopes base) (type_of words scopes index)
type_of words scopes (WithBinary op token left right) = on_both (binary_type op) (type_of words scopes left) (type_of words scopes right)

-- ---- faults

-- operands that are typed do not fit their operator: its expression is wrong
abbrev pub misfit : Bool → Option Scalar → ℕ → List Fault
misfit typed given token = when (typed && not (is_some given)) (Mistyped token)

-- the type does not suit
abbrev pub unsuited : Scalar → Option Scalar → ℕ → List Fault
unsuited wanted None token = []
unsuited wanted (Some t) token = when (not (suits wanted t)) (Mistyped token)

abbrev pub an_integer : Scalar
an_integer = scalars.Integer Int

-- an operand of `&&` or `||` is a condition
abbrev pub is_of_conditions : Binary → Bool
is_of_conditions binary.Both = true
is_of_conditions binary.Either = true
is_of_conditions op = false

abbrev pub part_faults : Binary → Option Scalar → ℕ → List Fault
part_faults op t token = if is_of_conditions op then unsuited an_integer t token else []

abbrev pub pair_faults : Binary → Option Scalar → Option Scalar → ℕ → List Fault
pair_faults op l r token = if is_of_conditions op then [] else misfit (is_some l && is_some r) (on_both (binary_type op) l r) token

abbrev pub faults_of : List Word → List Scope → Expression → List Fault
faults_of words scopes (OfConstant token) = []
faults_of words scopes (OfName token) = name_faults token (look_up words scopes token)
faults_of words scopes (InParentheses token inner) = faults_of words scopes inner
faults_of words scopes (WithUnary op token operand) =
    faults_of words scopes operand ++ misfit (is_some (type_of words scopes operand)) (option_and_then (unary_type op (designates words scopes operand)) (type_of words scopes operand)) token
faults_of words scopes (WithCast token to operand) =
    faults_of words scopes operand ++ misfit (is_some (type_of words scopes operand)) (option_and_then (cast_type to) (type_of words scopes operand)) token
faults_of words scopes (AtIndex base token index) =
    faults_of words scopes base ++ (faults_of words scopes index
    ++ misfit (is_some (type_of words scopes base) && is_some (type_of words scopes index)) (on_both index_type (type_of words scopes base) (type_of words scopes index)) (first_of base))
faults_of words scopes (WithBinary op token left right) =
    faults_of words scopes left ++ (part_faults op (type_of words scopes left) (first_of left)
    ++ (faults_of words scopes right ++ (part_faults op (type_of words scopes right) (first_of right)
    ++ pair_faults op (type_of words scopes left) (type_of words scopes right) (first_of left))))

-- where such a type is wanted
abbrev pub wanted_faults : List Word → List Scope → Option Scalar → Expression → List Fault
wanted_faults words scopes None e = faults_of words scopes e
wanted_faults words scopes (Some wanted) e = faults_of words scopes e ++ unsuited wanted (type_of words scopes e) (first_of e)

abbrev pub condition_faults : List Word → List Scope → Expression → List Fault
condition_faults words scopes e = wanted_faults words scopes (Some an_integer) e

-- ---- what is assigned

abbrev pub target_type : List Word → List Scope → Expression → Option Scalar
target_type words scopes e = if designates words scopes e then type_of words scopes e else None

abbrev pub target_faults : List Word → List Scope → Expression → List Fault
target_faults words scopes e = faults_of words scopes e ++ when (is_some (type_of words scopes e) && not (designates words scopes e)) (Mistyped (first_of e))
