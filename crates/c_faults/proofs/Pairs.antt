-- An operator of two operands that have types.
--   pair_told     operands that are conditions, where each is an integer, fit their operator
--   binary_told   where the operands have no fault, the first is that of the operator
use Rattle.std.proofs.Common.{◌≡◌, ℕ, true, List, ◌++◌, Option, None, Some, refl, sym, ap, ◌∙◌}
use Rattle.c_unit.specs.declared.types.Scalar.{Scalar}
use Rattle.c_unit.specs.declared.types.Scalar.TheVariants as scalars
use Rattle.c_unit.specs.declared.expression.Binary.{Binary}
use Rattle.c_unit.specs.declared.expression.Binary.TheVariants as binary
use Rattle.c_unit.specs.Tree.{Expression, WithBinary}
use Rattle.c_unit.specs.Measures.{first_of}
use Rattle.c_unit.specs.Units.{Word}
use Rattle.c_rules.specs.Faults.{Fault, earliest}
use Rattle.c_rules.specs.Names.{Scope}
use Rattle.c_rules.specs.Types.{binary_type}
use Rattle.c_rules.specs.Expressions.{type_of, misfit, part_faults, pair_faults, faults_of}
use Rattle.c_scopes.specs.FirstFaultLaws.{after_none}

-- the first fault of a pair whose parts have none
pub pair_told : (op : Binary) (l r : Scalar) (a b : ℕ) → earliest (part_faults op (Some l) a) ≡ None
    → earliest (part_faults op (Some r) b) ≡ None
    → earliest (misfit true (binary_type op l r) a) ≡ earliest (pair_faults op (Some l) (Some r) a)
pair_told binary.Both (scalars.Integer i) (scalars.Integer j) a b left right = refl
pair_told binary.Both (scalars.Integer i) (scalars.Pointer j) a b left right = cc
pair_told binary.Both (scalars.Pointer i) r a b left right = cc
pair_told binary.Either (scalars.Integer i) (scalars.Integer j) a b left right = refl
pair_told binary.Either (scalars.Integer i) (scalars.Pointer j) a b left right = cc
pair_told binary.Either (scalars.Pointer i) r a b left right = cc
pair_told binary.Multiply l r a b left right = refl
pair_told binary.Divide l r a b left right = refl
pair_told binary.Remainder l r a b left right = refl
pair_told binary.Add l r a b left right = refl
pair_told binary.Subtract l r a b left right = refl
pair_told binary.ShiftLeft l r a b left right = refl
pair_told binary.ShiftRight l r a b left right = refl
pair_told binary.Less l r a b left right = refl
pair_told binary.Greater l r a b left right = refl
pair_told binary.AtMost l r a b left right = refl
pair_told binary.AtLeast l r a b left right = refl
pair_told binary.Equal l r a b left right = refl
pair_told binary.Unequal l r a b left right = refl
pair_told binary.And l r a b left right = refl
pair_told binary.Xor l r a b left right = refl
pair_told binary.Or l r a b left right = refl

-- the first fault of an operator's expression whose parts have none
pub binary_told :
    (words : List Word) (scopes : List Scope) (op : Binary) (token : ℕ) (left right : Expression) (l r : Scalar) → earliest (faults_of words scopes left) ≡ None
    → type_of words scopes left ≡ Some l → earliest (part_faults op (Some l) (first_of left)) ≡ None → earliest (faults_of words scopes right) ≡ None
    → type_of words scopes right ≡ Some r → earliest (part_faults op (Some r) (first_of right)) ≡ None
    → earliest (misfit true (binary_type op l r) (first_of left)) ≡ earliest (faults_of words scopes (WithBinary op token left right))
binary_told words scopes op token left right l r clear_left of_left left_fits clear_right of_right right_fits =
    let pair : Option Scalar → Option Scalar → List Fault = λ x y. pair_faults op x y (first_of left) in
    let rest : Option Scalar → Option Scalar → List Fault = λ x y. part_faults op y (first_of right) ++ pair x y in
    let behind : Option Scalar → Option Scalar → List Fault = λ x y. part_faults op x (first_of left) ++ (faults_of words scopes right ++ rest x y) in
    sym (after_none (faults_of words scopes left) (behind (type_of words scopes left) (type_of words scopes right)) clear_left
    ∙ ap (λ (x : Option Scalar). earliest (behind x (type_of words scopes right))) of_left
    ∙ ap (λ (y : Option Scalar). earliest (behind (Some l) y)) of_right
    ∙ after_none (part_faults op (Some l) (first_of left)) (faults_of words scopes right ++ rest (Some l) (Some r)) left_fits
    ∙ after_none (faults_of words scopes right) (rest (Some l) (Some r)) clear_right
    ∙ after_none (part_faults op (Some r) (first_of right)) (pair (Some l) (Some r)) right_fits
    ∙ sym (pair_told op l r (first_of left) (first_of right) left_fits right_fits))
