-- What an expression without faults keeps: a type, by the rules of C.
--   HasType words scopes e t      the expression has the type t
use Rattle.std.proofs.Common.{◌≡◌, ℕ, List, Some}
use Rattle.c_unit.specs.declared.types.Scalar.{Scalar}
use Rattle.c_unit.specs.declared.expression.Unary.{Unary}
use Rattle.c_unit.specs.declared.expression.Binary.{Binary}
use Rattle.c_unit.specs.Tree.{Expression, OfConstant, OfName, InParentheses, WithUnary, WithCast, AtIndex, WithBinary}
use Rattle.c_unit.specs.Units.{Word}
use Rattle.c_rules.specs.Types.{unary_type, cast_type, index_type, binary_type}
use Rattle.c_rules.specs.Names.{Entry, Scope, worth_at, constant_type, look_up}
use Rattle.c_rules.specs.Expressions.{value_type, designates}

-- the expression has the type
pub data HasType (words : List Word) (scopes : List Scope) : Expression → Scalar → Type 0 where
  constant : {token : ℕ} {t : Scalar} → constant_type (worth_at words token) ≡ t
      → HasType words scopes (OfConstant token) t
  object : {token : ℕ} {e : Entry} {t : Scalar} → look_up words scopes token ≡ Some e → value_type e.bound ≡ Some t
      → HasType words scopes (OfName token) t
  within : {token : ℕ} {inner : Expression} {t : Scalar} → HasType words scopes inner t
      → HasType words scopes (InParentheses token inner) t
  before : {op : Unary} {token : ℕ} {operand : Expression} {t r : Scalar} → HasType words scopes operand t
      → unary_type op (designates words scopes operand) t ≡ Some r → HasType words scopes (WithUnary op token operand) r
  converted : {token : ℕ} {to : Scalar} {operand : Expression} {t r : Scalar} → HasType words scopes operand t
      → cast_type to t ≡ Some r → HasType words scopes (WithCast token to operand) r
  indexed : {base : Expression} {token : ℕ} {index : Expression} {b i r : Scalar} → HasType words scopes base b
      → HasType words scopes index i → index_type b i ≡ Some r → HasType words scopes (AtIndex base token index) r
  between : {op : Binary} {token : ℕ} {left right : Expression} {a b r : Scalar} → HasType words scopes left a
      → HasType words scopes right b → binary_type op a b ≡ Some r
      → HasType words scopes (WithBinary op token left right) r
