-- Laws of values.
--   names_stand                 so it is in an expression that has a type
--   value_term, address_term_of   values and addresses are terms of 32 bits
--   element_at   an element lies so much deeper than its base and its index
use Rattle.std.proofs.Common.{◌≤◌, ◌+◌, ℕ, max, List, Option, sym, subst, arith}
use Rattle.alf_program.specs.Tree.{NamedExpression, Address, Function, WholeProgram}
use Rattle.c_unit.specs.declared.types.Scalar.{Scalar}
use Rattle.c_unit.specs.declared.types.Scalar.TheVariants as scalars
use Rattle.c_unit.specs.Tree.{Expression, OfConstant, OfName, InParentheses, WithUnary, WithCast, AtIndex, WithBinary}
use Rattle.c_unit.specs.Units.{Word}
use Rattle.c_tokens.specs.declared.worth.Worth.{Worth}
use Rattle.c_tokens.specs.declared.worth.Worth.TheVariants as worth
use Rattle.c_rules.specs.Names.{Bound, Variable, Array, Function as FunctionBound, Entry, Scope, text_at, worth_at, look_up}
use Rattle.c_rules.specs.Typed.{HasType, constant, object, within, before, converted, indexed, between}
use Rattle.c_meaning.specs.Objects.{Program}
use Rattle.c_meaning.specs.Expressions.{kind_of, pointee, declared_at}
use Rattle.c_lowered.specs.Names.{frame_of}
use Rattle.c_lowered.specs.Values.{bound_value, name_value, constant_of, place_of, element_address, value_of, address_of}
use Rattle.lowering_checks.specs.Terms.{Term}
use Rattle.lowering_checks.proofs.TermLaws.{deeper, address_term}
use Rattle.lowering_checks.specs.Constants.{Fits}
use Rattle.lowering_checks.proofs.ConstantLaws.{worth_fits}
use Rattle.lowering_checks.proofs.OperatorLaws.{whole_term, constant_term, cast_term, loaded_term, binary_term, unary_term, element_term}
use Rattle.lowering_checks.specs.Values.{IsObjectNamed, NamesStand, deep, ScopesUsable}

pub names_stand : (words : List Word) (scopes : List Scope) (e : Expression) (t : Scalar) → HasType words scopes e t
    → NamesStand words scopes e
names_stand words scopes e t (constant {token = token} {t = u} is) = tt
names_stand words scopes e t (object {token = token} {e = entry} {t = u} found is) = record { entry = entry; found = found; is = (u, is) }
names_stand words scopes e t (within {token = token} {inner = inner} {t = u} of) = names_stand words scopes inner u of
names_stand words scopes e t (before {op = op} {token = token} {operand = operand} {t = u} {r = r} of is) = names_stand words scopes operand u of
names_stand words scopes e t (converted {token = token} {to = to} {operand = operand} {t = u} {r = r} of is) = names_stand words scopes operand u of
names_stand words scopes e t (indexed {base = base} {token = token} {index = index} {b = b} {i = i} {r = r} of_base of_index is) =
    (names_stand words scopes base b of_base, names_stand words scopes index i of_index)
names_stand words scopes e t (between {op = op} {token = token} {left = left} {right = right} {a = a} {b = b} {r = r} of_left of_right is) =
    (names_stand words scopes left a of_left, names_stand words scopes right b of_right)

module _ (whole : WholeProgram) (func : Function) (program : Program) where
  constant_of_term : (w : Worth) (n : ℕ) → Fits w → 1 ≤ n → Term whole func 32 n (constant_of w)
  constant_of_term worth.NoConstant n fits some = whole_term whole func 0 n (omega arith) some
  constant_of_term worth.TooLarge n fits some = whole_term whole func 0 n (omega arith) some
  constant_of_term (worth.Int w) n fits some = constant_term whole func _ w n fits some
  constant_of_term (worth.UnsignedInt w) n fits some = constant_term whole func _ w n fits some

  bound_term : (b : Bound) (at : NamedExpression) → Term whole func 32 1 at → Term whole func 32 3 (bound_value b at)
  bound_term (Variable t) at is = loaded_term whole func t 1 at is
  bound_term (Array i) at is = deeper whole func 32 1 3 at (omega arith) is
  bound_term (FunctionBound o ps) at is = deeper whole func 32 1 3 at (omega arith) is

  module _ (scopes : List Scope) (usable : ScopesUsable whole func program scopes) where
    pub place_term : (token : ℕ) → IsObjectNamed program.words scopes token
        → Term whole func 32 1 (place_of program scopes token)
    place_term token named =
        subst (λ (x : Option Entry). Term whole func 32 1 (Address (frame_of program (declared_at x token)) 0)) (sym named.found)
        (address_term whole func (frame_of program named.entry.token) 0 1 (usable token named.entry named.found named.is) (omega arith) (omega arith))

    name_term : (token : ℕ) → IsObjectNamed program.words scopes token
        → Term whole func 32 3 (name_value (look_up program.words scopes token) (place_of program scopes token))
    name_term token named =
        subst (λ (x : Option Entry). Term whole func 32 3 (name_value x (place_of program scopes token))) (sym named.found)
        (bound_term named.entry.bound (place_of program scopes token) (place_term token named))

    -- an element lies so much deeper than its base and its index
    pub element_at : (base index : Expression) → Term whole func 32 (deep base) (value_of program scopes base)
        → Term whole func 32 (deep index) (value_of program scopes index)
        → Term whole func 32 (3 + max (deep base) (deep index))
        (element_address (kind_of program.words scopes base) (kind_of program.words scopes index) (value_of program scopes base)
        (value_of program scopes index))
    element_at base index t u =
        let n = max (deep base) (deep index) in
        element_term whole func (kind_of program.words scopes base) (kind_of program.words scopes index) n
        (value_of program scopes base) (value_of program scopes index) (omega arith)
        (deeper whole func 32 (deep base) n _ (omega arith) t) (deeper whole func 32 (deep index) n _ (omega arith) u)

    mutual
      pub value_term : (e : Expression) → NamesStand program.words scopes e
          → Term whole func 32 (deep e) (value_of program scopes e)
      value_term (OfConstant token) h = constant_of_term (worth_at program.words token) 3 (worth_fits (text_at program.words token)) (omega arith)
      value_term (OfName token) h = name_term token h
      value_term (InParentheses token inner) h = value_term inner h
      value_term (WithUnary op token operand) h =
          deeper whole func 32 (2 + deep operand) (deep (WithUnary op token operand)) _ (omega arith)
          (unary_term whole func op (kind_of program.words scopes operand) (deep operand) (value_of program scopes operand)
          (address_of program scopes operand) (omega arith) (value_term operand h) (address_term_of operand h))
      value_term (WithCast token to operand) h =
          deeper whole func 32 (2 + deep operand) (deep (WithCast token to operand)) _ (omega arith)
          (cast_term whole func to (deep operand) (value_of program scopes operand) (value_term operand h))
      value_term (AtIndex base token index) h =
          let n = max (deep base) (deep index) in
          deeper whole func 32 (2 + (3 + n)) (deep (AtIndex base token index)) _ (omega arith)
          (loaded_term whole func (scalars.Integer (pointee (kind_of program.words scopes base))) (3 + n) _
          (element_at base index (value_term base h.0) (value_term index h.1)))
      value_term (WithBinary op token left right) h =
          let n = max (deep left) (deep right) in
          deeper whole func 32 (3 + n) (deep (WithBinary op token left right)) _ (omega arith)
          (binary_term whole func op (kind_of program.words scopes left) (kind_of program.words scopes right) n
          (value_of program scopes left) (value_of program scopes right) (omega arith)
          (deeper whole func 32 (deep left) n _ (omega arith) (value_term left h.0))
          (deeper whole func 32 (deep right) n _ (omega arith) (value_term right h.1)))

      pub address_term_of : (e : Expression) → NamesStand program.words scopes e
          → Term whole func 32 (deep e) (address_of program scopes e)
      address_term_of (OfConstant token) h = whole_term whole func 0 3 (omega arith) (omega arith)
      address_term_of (OfName token) h = deeper whole func 32 1 3 _ (omega arith) (place_term token h)
      address_term_of (InParentheses token inner) h = address_term_of inner h
      address_term_of (WithUnary op token operand) h =
          deeper whole func 32 (deep operand) (deep (WithUnary op token operand)) _ (omega arith) (value_term operand h)
      address_term_of (WithCast token to operand) h = whole_term whole func 0 (deep (WithCast token to operand)) (omega arith) (omega arith)
      address_term_of (AtIndex base token index) h =
          deeper whole func 32 (3 + max (deep base) (deep index)) (deep (AtIndex base token index)) _ (omega arith)
          (element_at base index (value_term base h.0) (value_term index h.1))
      address_term_of (WithBinary op token left right) h = whole_term whole func 0 (deep (WithBinary op token left right)) (omega arith) (omega arith)
