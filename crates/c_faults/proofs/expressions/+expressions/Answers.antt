-- An operator of two operands that have types.
use Rattle.std.proofs.Common.{◌≡◌, Option, Some, true, ap, sym, ◌∙◌}
use Rattle.c_unit.specs.declared.types.Scalar.{Scalar}
use Rattle.c_unit.specs.declared.expression.Expr.{Expr}
use Rattle.c_unit.specs.declared.expression.Expr.TheFolds.{fold-roll-Expr}
use Rattle.c_unit.specs.declared.expression.Expr.TheOpen as exprs
use Rattle.c_unit.specs.declared.expression.Expr.TheViews.{rolls-Binary}
use Rattle.c_unit.specs.Tree.{Expression, expression_of, expression_step, WithBinary}
use Rattle.c_unit.specs.Measures.{first_of}
use Rattle.c_rules.specs.Faults.{earliest}
use Rattle.c_rules.specs.Types.{binary_type}
use Rattle.c_rules.specs.Expressions.{type_of, misfit, part_faults, faults_of}
use Rattle.c_faults.proofs.Pairs.{binary_told}
use Rattle.c_faults.proofs.expressions.+expressions.Goals as goal

pub returns-in_ok-check_part-in-Binary-2-clause-told : goal.returns-in_ok-check_part-in-Binary-2-clause-told
returns-in_ok-check_part-in-Binary-2-clause-told t c =
    let words = c.args.scopes.now.words in
    let scopes = c.args.scopes.now.scopes in
    let op = c.in-Binary.op in
    let left = expression_of c.in-Binary.left.value in
    let right = expression_of c.in-Binary.right.value in
    let token = c.in-Binary.field-1 in
    let tree : expression_of c.args.e.now ≡ WithBinary op token left right =
    rw c.in-Binary.is (ap expression_of (sym (rolls-Binary op token c.in-Binary.left c.in-Binary.right)) ∙ fold-roll-Expr Expression expression_step (exprs.Binary op token c.in-Binary.left c.in-Binary.right)) in
    let first = c.in_ok-first-in-Binary.first in
    let second = c.in_ok-second-in-Binary.second in
    c.fitting_from-in-Binary.ensures.told
    ∙ ap (λ (x : Option Scalar). earliest (misfit true x (first_of (expression_of c.deref-in-Binary-5.result.now)))) c.binary_type.ensures
    ∙ ap (λ (e : Expr). earliest (misfit true (binary_type op first second) (first_of (expression_of e)))) c.deref-in-Binary-5.ensures
    ∙ binary_told words scopes op token left right first second
    (ap (λ (e : Expr). earliest (faults_of words scopes (expression_of e))) (sym c.deref-in-Binary.ensures) ∙ sym c.in_ok-first-in-Binary.ensures.told)
    (ap (λ (e : Expr). type_of words scopes (expression_of e)) (sym c.deref-in-Binary.ensures) ∙ c.in_ok-first-in-Binary.ensures.typed)
    (ap (λ (e : Expr). earliest (part_faults op (Some first) (first_of (expression_of e)))) (sym c.deref-in-Binary-2.ensures) ∙ sym c.in_ok-check_part-in-Binary.ensures.told)
    (ap (λ (e : Expr). earliest (faults_of words scopes (expression_of e))) (sym c.deref-in-Binary-3.ensures) ∙ sym c.in_ok-second-in-Binary.ensures.told)
    (ap (λ (e : Expr). type_of words scopes (expression_of e)) (sym c.deref-in-Binary-3.ensures) ∙ c.in_ok-second-in-Binary.ensures.typed)
    (ap (λ (e : Expr). earliest (part_faults op (Some second) (first_of (expression_of e)))) (sym c.deref-in-Binary-4.ensures) ∙ sym c.in_ok-check_part-in-Binary-2.ensures.told)
    ∙ ap (λ (e : Expression). earliest (faults_of words scopes e)) (sym tree)
