-- Values of C have 32 bits after a sound history.
use Rattle.std.proofs.Common.{◌≡◌, ℕ, List, Option, Some, None, Ok, Err, refl, arith}
use Rattle.alf_ops.specs.declared.history.Value.{Value}
use Rattle.alf_ops.specs.declared.history.RunEvent.{RunEvent}
use Rattle.alf_ops.specs.Histories.{load, IsSoundHistory}
use Rattle.alf_ops.specs.HistoryLaws.{LoadFits}
use Rattle.alf_ops.specs.WholeCells.{IsCell}
use Rattle.c_unit.specs.declared.types.Integer.{Integer}
use Rattle.c_unit.specs.declared.types.Integer.TheVariants.{Char, UnsignedChar, Short, UnsignedShort, Int, UnsignedInt}
use Rattle.c_unit.specs.declared.types.Scalar.{Scalar}
use Rattle.c_unit.specs.declared.types.Scalar.TheVariants as scalars
use Rattle.c_unit.specs.declared.expression.Unary.{Unary}
use Rattle.c_unit.specs.declared.expression.Unary.TheVariants as unary
use Rattle.c_unit.specs.Tree.{Expression, OfConstant, OfName, InParentheses, WithUnary, WithCast, AtIndex, WithBinary}
use Rattle.c_rules.specs.Names.{Bound, Variable, Array, Function, Entry, Scope, look_up, text_at}
use Rattle.c_meaning.specs.Values.{Valued, on_value, bits_of_type}
use Rattle.c_meaning.specs.Objects.{Program, shapes_of}
use Rattle.c_meaning.specs.Expressions.{kind_of, pointee, place_of, loaded, bound_value, name_value, unary_value, unary_address, element_address, value_of, address_of}
use Rattle.lowering_values.specs.OperatorLaws.{FitsResult, OperatorsFit, UnariesFit, ExtendsFit, CastsFit, ElementsFit}
use Rattle.lowering_values.proofs.Constants.{worth_small}

-- laws of loads and of operators: what they give has its size
pub record Sizes : Type 0 where
  pub loads : LoadFits
  pub operators : OperatorsFit
  pub unaries : UnariesFit
  pub extends : ExtendsFit
  pub casts : CastsFit
  pub elements : ElementsFit

pub type_cell : (i : Integer) → IsCell (bits_of_type i)
type_cell Char = (omega arith, refl)
type_cell UnsignedChar = (omega arith, refl)
type_cell Short = (omega arith, refl)
type_cell UnsignedShort = (omega arith, refl)
type_cell Int = (omega arith, refl)
type_cell UnsignedInt = (omega arith, refl)

word_cell : IsCell 32
word_cell = (omega arith, refl)

module _ (sizes : Sizes) (program : Program) (scopes : List Scope) (h : List RunEvent) (sound : IsSoundHistory h) where
  abbrev Fit : Valued → Type 0
  Fit r = FitsResult 32 r

  read_fits : (place : Value) (size : ℕ) → IsCell size → (r : Valued) → load (shapes_of program) h place size ≡ r
      → FitsResult size r
  read_fits place size cell (Ok v) is = sizes.loads (shapes_of program) h place v size sound cell is
  read_fits place size cell (Err fault) is = tt

  loaded_fits : (t : Scalar) (place : Value) → Fit (loaded program h t place)
  loaded_fits (scalars.Integer i) place =
      sizes.extends i (load (shapes_of program) h place (bits_of_type i)) (read_fits place (bits_of_type i) (type_cell i) (load (shapes_of program) h place (bits_of_type i)) refl)
  loaded_fits (scalars.Pointer i) place = read_fits place 32 word_cell (load (shapes_of program) h place 32) refl

  on_loaded_fits : (t : Scalar) (r : Valued) → Fit (on_value (loaded program h t) r)
  on_loaded_fits t (Ok place) = loaded_fits t place
  on_loaded_fits t (Err fault) = tt

  place_fits : (token : ℕ) → Fit (Ok (place_of program scopes token))
  place_fits token = (refl, omega arith)

  bound_fits : (b : Bound) (token : ℕ) → Fit (bound_value program h b (place_of program scopes token))
  bound_fits (Variable t) token = loaded_fits t (place_of program scopes token)
  bound_fits (Array i) token = place_fits token
  bound_fits (Function o ps) token = tt

  name_fits : (found : Option Entry) (token : ℕ) → Fit (name_value program h found (place_of program scopes token))
  name_fits None token = tt
  name_fits (Some e) token = bound_fits e.bound token

  unary_fits : (op : Unary) (t : Scalar) (value place : Valued) → Fit value → Fit place
      → Fit (unary_value program h op t value place)
  unary_fits unary.Not t value place fits placed = (sizes.unaries value).not_fits
  unary_fits unary.Complement t value place fits placed = (sizes.unaries value).complement_fits
  unary_fits unary.Minus t value place fits placed = (sizes.unaries value).minus_fits
  unary_fits unary.Plus t value place fits placed = fits
  unary_fits unary.Load t value place fits placed = on_loaded_fits (scalars.Integer (pointee t)) value
  unary_fits unary.Address t value place fits placed = placed

  unary_address_fits : (op : Unary) (value : Valued) → Fit value → Fit (unary_address op value)
  unary_address_fits unary.Not value fits = tt
  unary_address_fits unary.Complement value fits = tt
  unary_address_fits unary.Minus value fits = tt
  unary_address_fits unary.Plus value fits = tt
  unary_address_fits unary.Load value fits = fits
  unary_address_fits unary.Address value fits = tt

  mutual
    pub value_fits : (e : Expression) → Fit (value_of program scopes h e)
    value_fits (OfConstant token) = (refl, worth_small (text_at program.words token))
    value_fits (OfName token) = name_fits (look_up program.words scopes token) token
    value_fits (InParentheses token inner) = value_fits inner
    value_fits (WithUnary op token operand) =
        unary_fits op (kind_of program.words scopes operand) (value_of program scopes h operand) (address_of program scopes h operand) (value_fits operand) (address_fits operand)
    value_fits (WithCast token to operand) = sizes.casts to (value_of program scopes h operand) (value_fits operand)
    value_fits (AtIndex base token index) =
        on_loaded_fits (scalars.Integer (pointee (kind_of program.words scopes base)))
        (element_address (kind_of program.words scopes base) (value_of program scopes h base) (value_of program scopes h index))
    value_fits (WithBinary op token left right) =
        sizes.operators op (kind_of program.words scopes left) (kind_of program.words scopes right) (value_of program scopes h left) (value_of program scopes h right)
        (value_fits left) (value_fits right)

    pub address_fits : (e : Expression) → Fit (address_of program scopes h e)
    address_fits (OfConstant token) = tt
    address_fits (OfName token) = place_fits token
    address_fits (InParentheses token inner) = address_fits inner
    address_fits (WithUnary op token operand) = unary_address_fits op (value_of program scopes h operand) (value_fits operand)
    address_fits (WithCast token to operand) = tt
    address_fits (AtIndex base token index) =
        sizes.elements (kind_of program.words scopes base) (value_of program scopes h base) (value_of program scopes h index)
    address_fits (WithBinary op token left right) = tt
