-- An assignment with an operator.
--   update_told   where the operands have no fault, the first is that of the operator
use Rattle.std.proofs.Common.{◌≡◌, ◌++◌, ℕ, List, Option, None, Some, sym, ap, ◌∙◌}
use Rattle.c_unit.specs.declared.types.Scalar.{Scalar}
use Rattle.c_unit.specs.declared.expression.Binary.{Binary}
use Rattle.c_unit.specs.Tree.{Expression, Updates}
use Rattle.c_unit.specs.Measures.{first_of}
use Rattle.c_unit.specs.Units.{Word}
use Rattle.c_rules.specs.Faults.{Fault, earliest}
use Rattle.c_rules.specs.Names.{Scope}
use Rattle.c_rules.specs.Expressions.{type_of, faults_of, target_type, target_faults}
use Rattle.c_rules.specs.Statements.{update_faults, effect_faults}
use Rattle.c_scopes.specs.FirstFaultLaws.{after_none}

pub update_told :
    (words : List Word) (defined : List ℕ) (scopes : List Scope) (to : Expression) (op : Binary) (token : ℕ) (e : Expression) (t r : Scalar) → earliest (target_faults words scopes to) ≡ None
    → target_type words scopes to ≡ Some t → earliest (faults_of words scopes e) ≡ None → type_of words scopes e ≡ Some r
    → earliest (update_faults op (Some t) (Some r) (first_of to)) ≡ earliest (effect_faults words defined scopes (Updates to op token e))
update_told words defined scopes to op token e t r clear_to of_to clear_e of_e =
    let behind : Option Scalar → Option Scalar → List Fault = λ x y. update_faults op x y (first_of to) in
    sym (after_none (target_faults words scopes to) (faults_of words scopes e ++ behind (target_type words scopes to) (type_of words scopes e)) clear_to
    ∙ after_none (faults_of words scopes e) (behind (target_type words scopes to) (type_of words scopes e)) clear_e
    ∙ ap (λ (x : Option Scalar). earliest (behind x (type_of words scopes e))) of_to
    ∙ ap (λ (y : Option Scalar). earliest (behind (Some t) y)) of_e)
