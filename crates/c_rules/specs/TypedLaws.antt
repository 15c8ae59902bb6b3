-- Laws of typed.
--   is_type                       then it is the one that `type_of` gives
--   typed                         an expression without faults has a type
--   fitted          what fits gives something
--   an_integer_of   of what suits an integer
use Rattle.std.proofs.Common.{◌≡◌, ℕ, Bool, true, false, not, ◌&&◌, List, [], ◌∷◌, ◌++◌, Option, Some, None, if◌then◌else◌, refl, sym, ap, ◌∙◌}
use Rattle.std.specs.Option.{is_some, option_and_then}
use Rattle.lists.specs.TestLaws.{by_test}
use Rattle.c_unit.specs.declared.types.Integer.{Integer}
use Rattle.c_unit.specs.declared.types.Integer.TheVariants.{Int}
use Rattle.c_unit.specs.declared.types.Scalar.{Scalar}
use Rattle.c_unit.specs.declared.types.Scalar.TheVariants as scalars
use Rattle.c_unit.specs.declared.expression.Binary.{Binary}
use Rattle.c_unit.specs.declared.expression.Binary.TheVariants as binary
use Rattle.c_unit.specs.Tree.{Expression, OfConstant, OfName, InParentheses, WithUnary, WithCast, AtIndex, WithBinary}
use Rattle.c_unit.specs.Measures.{first_of}
use Rattle.c_unit.specs.Units.{Word}
use Rattle.c_rules.specs.Faults.{Fault, Unknown, Mistyped, when}
use Rattle.c_rules.specs.Types.{unary_type, cast_type, index_type, binary_type}
use Rattle.c_rules.specs.Names.{Entry, Scope, worth_at, constant_type, look_up}
use Rattle.c_rules.specs.Expressions.{value_type, type_at, name_faults, designates, on_both, type_of, misfit, unsuited, an_integer, is_of_conditions, part_faults, pair_faults, faults_of}
use Rattle.c_rules.specs.Typed.{HasType, constant, object, within, before, converted, indexed, between}

-- ---- lists without faults

pub apart : (xs ys : List Fault) → xs ++ ys ≡ [] → (xs ≡ []) × (ys ≡ [])
apart [] ys none = (refl, none)
apart (x ∷ xs) ys none = absurd (let bad : x ∷ (xs ++ ys) ≡ [] = none in cc)

pub not_when : (test : Bool) (fault : Fault) → when test fault ≡ [] → test ≡ false
not_when true fault none = absurd (let bad : fault ∷ [] ≡ [] = none in cc)
not_when false fault none = refl

pub some_of : {A : Type 0} (x : Option A) → is_some x ≡ true → (a : A) × x ≡ Some a
some_of None none = absurd (let bad : false ≡ true = none in cc)
some_of (Some a) some = (a, refl)

negated : (b : Bool) → not b ≡ false → b ≡ true
negated true clear = refl
negated false clear = absurd (let bad : true ≡ false = clear in cc)

-- what fits gives something
pub fitted : (given : Option Scalar) (token : ℕ) (known : Bool) → known ≡ true → misfit known given token ≡ []
    → (r : Scalar) × given ≡ Some r
fitted given token true is none = some_of given (negated (is_some given) (not_when (not (is_some given)) (Mistyped token) none))
fitted given token false is none = absurd (let bad : false ≡ true = is in cc)

-- ---- types

pub is_type : (words : List Word) (scopes : List Scope) (e : Expression) (t : Scalar) → HasType words scopes e t
    → type_of words scopes e ≡ Some t
is_type words scopes e t (constant {token = token} {t = u} is) = ap (λ (v : Scalar). Some v) is
is_type words scopes e t (object {token = token} {e = entry} {t = u} found is) = ap (λ (x : Option Entry). type_at x) found ∙ is
is_type words scopes e t (within {token = token} {inner = inner} {t = u} of) = is_type words scopes inner u of
is_type words scopes e t (before {op = op} {token = token} {operand = operand} {t = u} {r = r} of is) =
    ap (λ (x : Option Scalar). option_and_then (unary_type op (designates words scopes operand)) x) (is_type words scopes operand u of) ∙ is
is_type words scopes e t (converted {token = token} {to = to} {operand = operand} {t = u} {r = r} of is) =
    ap (λ (x : Option Scalar). option_and_then (cast_type to) x) (is_type words scopes operand u of) ∙ is
is_type words scopes e t (indexed {base = base} {token = token} {index = index} {b = b} {i = i} {r = r} of_base of_index is) =
    ap (λ (x : Option Scalar). on_both index_type x (type_of words scopes index)) (is_type words scopes base b of_base)
    ∙ ap (λ (x : Option Scalar). on_both index_type (Some b) x) (is_type words scopes index i of_index) ∙ is
is_type words scopes e t (between {op = op} {token = token} {left = left} {right = right} {a = a} {b = b} {r = r} of_left of_right is) =
    ap (λ (x : Option Scalar). on_both (binary_type op) x (type_of words scopes right)) (is_type words scopes left a of_left)
    ∙ ap (λ (x : Option Scalar). on_both (binary_type op) (Some a) x) (is_type words scopes right b of_right) ∙ is

-- ---- an expression without faults has a type

-- of what suits an integer
pub an_integer_of : (t : Scalar) (token : ℕ) → unsuited an_integer (Some t) token ≡ []
    → (i : Integer) × t ≡ scalars.Integer i
an_integer_of (scalars.Integer i) token none = (i, refl)
an_integer_of (scalars.Pointer i) token none = absurd (let bad : Mistyped token ∷ [] ≡ [] = none in cc)

-- the parts of a condition give an `int`
of_conditions : (op : Binary) → is_of_conditions op ≡ true → (a b : Integer)
    → binary_type op (scalars.Integer a) (scalars.Integer b) ≡ Some (scalars.Integer Int)
of_conditions binary.Both is a b = refl
of_conditions binary.Either is a b = refl
of_conditions binary.Multiply is a b = absurd (let bad : false ≡ true = is in cc)
of_conditions binary.Divide is a b = absurd (let bad : false ≡ true = is in cc)
of_conditions binary.Remainder is a b = absurd (let bad : false ≡ true = is in cc)
of_conditions binary.Add is a b = absurd (let bad : false ≡ true = is in cc)
of_conditions binary.Subtract is a b = absurd (let bad : false ≡ true = is in cc)
of_conditions binary.ShiftLeft is a b = absurd (let bad : false ≡ true = is in cc)
of_conditions binary.ShiftRight is a b = absurd (let bad : false ≡ true = is in cc)
of_conditions binary.Less is a b = absurd (let bad : false ≡ true = is in cc)
of_conditions binary.Greater is a b = absurd (let bad : false ≡ true = is in cc)
of_conditions binary.AtMost is a b = absurd (let bad : false ≡ true = is in cc)
of_conditions binary.AtLeast is a b = absurd (let bad : false ≡ true = is in cc)
of_conditions binary.Equal is a b = absurd (let bad : false ≡ true = is in cc)
of_conditions binary.Unequal is a b = absurd (let bad : false ≡ true = is in cc)
of_conditions binary.And is a b = absurd (let bad : false ≡ true = is in cc)
of_conditions binary.Xor is a b = absurd (let bad : false ≡ true = is in cc)
of_conditions binary.Or is a b = absurd (let bad : false ≡ true = is in cc)

by_entry : {A : Type 0} (x : Option Entry) → (x ≡ None → A) → ((e : Entry) → x ≡ Some e → A) → A
by_entry None none some = none refl
by_entry (Some e) none some = some e refl

-- the operands of an operator fit it
pair_fits : (op : Binary) (a b : Scalar) (first second : ℕ) → part_faults op (Some a) first ≡ []
    → part_faults op (Some b) second ≡ [] → pair_faults op (Some a) (Some b) first ≡ []
    → (r : Scalar) × binary_type op a b ≡ Some r
pair_fits op a b first second left right pair =
    by_test (is_of_conditions op)
    (λ is.
    let l = an_integer_of a first (sym (ap (λ (c : Bool). if c then unsuited an_integer (Some a) first else []) is) ∙ left) in
    let r = an_integer_of b second (sym (ap (λ (c : Bool). if c then unsuited an_integer (Some b) second else []) is) ∙ right) in
    (scalars.Integer Int, ap (λ (t : Scalar). binary_type op t b) l.1 ∙ ap (λ (t : Scalar). binary_type op (scalars.Integer l.0) t) r.1 ∙ of_conditions op is l.0 r.0))
    (λ clear. fitted (binary_type op a b) first true refl (sym (ap (λ (c : Bool). if c then [] else misfit true (binary_type op a b) first) clear) ∙ pair))

module _ (words : List Word) (scopes : List Scope) where
  pub typed : (e : Expression) → faults_of words scopes e ≡ [] → (t : Scalar) × HasType words scopes e t
  typed (OfConstant token) none = (constant_type (worth_at words token), constant refl)
  typed (OfName token) none =
      by_entry (look_up words scopes token)
      (λ missing. absurd (let bad : Unknown token ∷ [] ≡ [] = sym (ap (λ (x : Option Entry). name_faults token x) missing) ∙ none in cc))
      (λ e found.
      let valued = some_of (value_type e.bound) (negated (is_some (value_type e.bound)) (not_when (not (is_some (value_type e.bound))) (Mistyped token) (sym (ap (λ (x : Option Entry). name_faults token x) found) ∙ none))) in
      (valued.0, object found valued.1))
  typed (InParentheses token inner) none = let r = typed inner none in (r.0, within r.1)
  typed (WithUnary op token operand) none =
      let parts = apart (faults_of words scopes operand) (misfit (is_some (type_of words scopes operand)) (option_and_then (unary_type op (designates words scopes operand)) (type_of words scopes operand)) token) none in
      let r = typed operand parts.0 in
      let is = is_type words scopes operand r.0 r.1 in
      let given = fitted (unary_type op (designates words scopes operand) r.0) token true refl
      (sym (ap (λ (x : Option Scalar). misfit (is_some x) (option_and_then (unary_type op (designates words scopes operand)) x) token) is) ∙ parts.1) in
      (given.0, before r.1 given.1)
  typed (WithCast token to operand) none =
      let parts = apart (faults_of words scopes operand) (misfit (is_some (type_of words scopes operand)) (option_and_then (cast_type to) (type_of words scopes operand)) token) none in
      let r = typed operand parts.0 in
      let is = is_type words scopes operand r.0 r.1 in
      let given = fitted (cast_type to r.0) token true refl (sym (ap (λ (x : Option Scalar). misfit (is_some x) (option_and_then (cast_type to) x) token) is) ∙ parts.1) in
      (given.0, converted r.1 given.1)
  typed (AtIndex base token index) none =
      let parts = apart (faults_of words scopes base) (faults_of words scopes index ++ misfit (is_some (type_of words scopes base) && is_some (type_of words scopes index)) (on_both index_type (type_of words scopes base) (type_of words scopes index)) (first_of base)) none in
      let others = apart (faults_of words scopes index) (misfit (is_some (type_of words scopes base) && is_some (type_of words scopes index)) (on_both index_type (type_of words scopes base) (type_of words scopes index)) (first_of base)) parts.1 in
      let b = typed base parts.0 in
      let i = typed index others.0 in
      let given = fitted (index_type b.0 i.0) (first_of base) true refl
      (sym (ap (λ (x : Option Scalar). misfit (is_some (type_of words scopes base) && is_some x) (on_both index_type (type_of words scopes base) x) (first_of base)) (is_type words scopes index i.0 i.1)
      ∙ ap (λ (x : Option Scalar). misfit (is_some x && true) (on_both index_type x (Some i.0)) (first_of base)) (is_type words scopes base b.0 b.1)) ∙ others.1) in
      (given.0, indexed b.1 i.1 given.1)
  typed (WithBinary op token left right) none =
      let l_type = type_of words scopes left in
      let r_type = type_of words scopes right in
      let first = apart (faults_of words scopes left) (part_faults op l_type (first_of left) ++ (faults_of words scopes right ++ (part_faults op r_type (first_of right) ++ pair_faults op l_type r_type (first_of left)))) none in
      let second = apart (part_faults op l_type (first_of left)) (faults_of words scopes right ++ (part_faults op r_type (first_of right) ++ pair_faults op l_type r_type (first_of left))) first.1 in
      let third = apart (faults_of words scopes right) (part_faults op r_type (first_of right) ++ pair_faults op l_type r_type (first_of left)) second.1 in
      let fourth = apart (part_faults op r_type (first_of right)) (pair_faults op l_type r_type (first_of left)) third.1 in
      let l = typed left first.0 in
      let r = typed right third.0 in
      let is_l = is_type words scopes left l.0 l.1 in
      let is_r = is_type words scopes right r.0 r.1 in
      let given = pair_fits op l.0 r.0 (first_of left) (first_of right)
      (sym (ap (λ (x : Option Scalar). part_faults op x (first_of left)) is_l) ∙ second.0)
      (sym (ap (λ (x : Option Scalar). part_faults op x (first_of right)) is_r) ∙ fourth.0)
      (sym (ap (λ (x : Option Scalar). pair_faults op x r_type (first_of left)) is_l ∙ ap (λ (x : Option Scalar). pair_faults op (Some l.0) x (first_of left)) is_r) ∙ fourth.1) in
      (given.0, between {r = given.0} l.1 r.1 given.1)
