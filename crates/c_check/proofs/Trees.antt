-- The trees of statements that have a part which may be missing, and their calls.
use Rattle.std.proofs.Common.{◌≡◌, ◌++◌, Option, None, Some, Box, refl, ap, sym, ◌∙◌}
use Rattle.std.specs.declared.alloc.Global.{Global}
use Rattle.std.specs.Option.{option_map}
use Rattle.std.proofs.lemmas.List.{append-nil}
use Rattle.c_unit.specs.declared.expression.Expr.{Expr}
use Rattle.c_unit.specs.declared.statement.Effect.{Effect}
use Rattle.c_unit.specs.declared.statement.Stmt.{Stmt}
use Rattle.c_unit.specs.declared.statement.Stmt.TheFolds.{fold-roll-Stmt}
use Rattle.c_unit.specs.declared.statement.Stmt.TheOpen as stmts
use Rattle.c_unit.specs.declared.statement.Stmt.TheVariants as variants
use Rattle.c_unit.specs.declared.statement.Stmt.TheViews.{rolls-If, rolls-For}
use Rattle.c_unit.specs.Tree.{Expression, EffectTree, Statement, expression_of, effect_of, if_of, for_of, statement_step, statement_of}
use Rattle.c_rules.specs.Recursion.{calls_in, calls_if_done}
use Rattle.c_check.specs.OptionalStatements.{stated, calls_if_stated}

pub if_tree : (condition : Expr) (body : Box Stmt Global) (otherwise : Option (Box Stmt Global)) → statement_of (variants.If condition body otherwise) ≡ if_of (expression_of condition) (statement_of body.value) (stated otherwise)
if_tree condition body None = ap statement_of (sym (rolls-If condition body None)) ∙ fold-roll-Stmt Statement statement_step (stmts.If condition body None)
if_tree condition body (Some otherwise) = ap statement_of (sym (rolls-If condition body (Some otherwise))) ∙ fold-roll-Stmt Statement statement_step (stmts.If condition body (Some otherwise))

pub if_calls : (condition : Expression) (body : Statement) (otherwise : Option Statement)
    → calls_in (if_of condition body otherwise) ≡ calls_in body ++ calls_if_stated otherwise
if_calls condition body None = sym (append-nil (calls_in body))
if_calls condition body (Some otherwise) = refl

pub for_tree :
    (first : Option (Box Stmt Global)) (condition : Option Expr) (done : Option Effect) (body : Box Stmt Global)
    → statement_of (variants.For first condition done body) ≡ for_of (stated first) (option_map expression_of condition) (option_map effect_of done) (statement_of body.value)
for_tree None condition done body = ap statement_of (sym (rolls-For None condition done body)) ∙ fold-roll-Stmt Statement statement_step (stmts.For None condition done body)
for_tree (Some first) condition done body = ap statement_of (sym (rolls-For (Some first) condition done body)) ∙ fold-roll-Stmt Statement statement_step (stmts.For (Some first) condition done body)

pub for_calls : (first : Option Statement) (condition : Option Expression) (done : Option EffectTree) (body : Statement)
    → calls_in (for_of first condition done body) ≡ calls_if_stated first ++ (calls_if_done done ++ calls_in body)
for_calls None condition _ body = refl
for_calls (Some first) condition _ body = refl
