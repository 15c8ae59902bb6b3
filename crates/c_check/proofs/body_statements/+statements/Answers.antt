-- Statements: a scope that is left, and those in a row.
use Rattle.std.proofs.Common.{◌≡◌, [], ◌∷◌, Some, ap, sym, ◌∙◌}
use Rattle.std.specs.Option.{option_map}
use Rattle.c_unit.specs.declared.statement.Stmt.{Stmt, fold-roll-Stmt}
use Rattle.c_unit.specs.declared.statement.Stmt as made
use Rattle.c_unit.specs.declared.statement.Stmt.TheOpen as stmts
use Rattle.c_unit.specs.declared.statement.Stmt.TheViews.{rolls-If, rolls-For}
use Rattle.c_unit.specs.Tree.{Statement, If, IfElse, ForAfter, expression_of, effect_of, statement_of, statement_step}
use Rattle.c_rules.specs.Statements.{inside, statement_faults}
use Rattle.c_scopes.specs.Views.{Known, left}
use Rattle.c_check.specs.Surroundings.{around_of}
use Rattle.c_check.specs.Afterwards.{known_after}
use Rattle.c_check.proofs.UnderWay.{left_after, row_goes_on}
use Rattle.c_check.proofs.Pairs.{if_else_stops, if_else_tells}
use Rattle.c_check.proofs.body_statements.+statements.Goals as goal

pub check_part-returns-clause-same : goal.check_part-returns-clause-same
check_part-returns-clause-same t c =
    let s = statement_of c.args.part.now in
    c.in_ok-leave.ensures ∙ ap (λ (known : Known). left known) (c.in_ok-check_statement.ensures.known ∙ ap (λ (known : Known). known_after known s) c.in_ok-enter.ensures) ∙ left_after c.args.scopes.now s

pub check_row-loop-statement-preserved : goal.check_row-loop-statement-preserved
check_row-loop-statement-preserved t c =
    row_goes_on c.args.functions.now.names c.args.place c.args.row.now c.loop-statement.statement-index c.statement-item.result c.args.scopes.now c.loop-statement.scopes c.check_statement.new.scopes
    c.args.labels.now c.loop-statement.labels c.check_statement.new.labels c.loop-statement-test.true c.statement-item.is c.loop-statement.invariant
    c.in_ok-check_statement.ensures.tells c.in_ok-check_statement.ensures.known c.in_ok-check_statement.ensures.around

pub check_statement-returns-in-Err-clause-tells : goal.check_statement-returns-in-Err-clause-tells
check_statement-returns-in-Err-clause-tells t c =
    let around = around_of c.args.place c.args.labels.now in
    let words = c.args.scopes.now.words in
    let names = c.args.functions.now.names in
    let scopes = c.args.scopes.now.scopes in
    let condition = expression_of c.in-If.condition in
    let tree : statement_of c.args.statement.now ≡ IfElse condition (statement_of c.in-If.body.value) (statement_of c.in-Some.otherwise.value) =
    ap statement_of (c.in-If.is ∙ ap (λ otherwise. made.If c.in-If.condition c.in-If.body otherwise) c.in-Some.is ∙ sym (rolls-If c.in-If.condition c.in-If.body (Some c.in-Some.otherwise)))
    ∙ fold-roll-Stmt Statement statement_step (stmts.If c.in-If.condition c.in-If.body (Some c.in-Some.otherwise)) in
    let first = ap (λ (b : Stmt). statement_faults words names around scopes (If condition (statement_of b))) c.deref-in-Some.ensures in
    if_else_stops words names around scopes condition (statement_of c.in-If.body.value) (statement_of c.in-Some.otherwise.value) Unit c.in-Err.stop (statement_of c.args.statement.now) _ tree first
    c.in-Err.ensures.tells

pub check_statement-returns-in-Ok-clause-tells : goal.check_statement-returns-in-Ok-clause-tells
check_statement-returns-in-Ok-clause-tells t c =
    let around = around_of c.args.place c.args.labels.now in
    let words = c.args.scopes.now.words in
    let names = c.args.functions.now.names in
    let scopes = c.args.scopes.now.scopes in
    let condition = expression_of c.in-If.condition in
    let tree : statement_of c.args.statement.now ≡ IfElse condition (statement_of c.in-If.body.value) (statement_of c.in-Some.otherwise.value) =
    ap statement_of (c.in-If.is ∙ ap (λ otherwise. made.If c.in-If.condition c.in-If.body otherwise) c.in-Some.is ∙ sym (rolls-If c.in-If.condition c.in-If.body (Some c.in-Some.otherwise)))
    ∙ fold-roll-Stmt Statement statement_step (stmts.If c.in-If.condition c.in-If.body (Some c.in-Some.otherwise)) in
    let first = ap (λ (b : Stmt). statement_faults words names around scopes (If condition (statement_of b))) c.deref-in-Some.ensures in
    let second = ap (λ (known : Known). statement_faults known.words names (inside around) ([] ∷ known.scopes) (statement_of c.deref-in-Ok.result.now)) c.in-Ok.ensures.same
    ∙ ap (λ (o : Stmt). statement_faults words names (inside around) ([] ∷ scopes) (statement_of o)) c.deref-in-Ok.ensures in
    if_else_tells words names around scopes condition (statement_of c.in-If.body.value) (statement_of c.in-Some.otherwise.value) c.check_part.result (statement_of c.args.statement.now) _ _
    tree first second c.in-Ok.ensures.tells c.check_part.ensures.tells

pub check_statement-returns-in_ok-leave-in-Some-first-clause-known : goal.check_statement-returns-in_ok-leave-in-Some-first-clause-known
check_statement-returns-in_ok-leave-in-Some-first-clause-known t c =
    let first = statement_of c.in-Some-first.first.value in
    let named = ap (λ (s : Stmt). statement_of s) c.deref-in-Some-first.ensures in
    let back = c.in_ok-leave-in-Some-first.ensures
    ∙ ap (λ (known : Known). left known) (c.in_ok-check_turns-in-Some-first.ensures.same ∙ c.in_ok-check_statement-in-Some-first.ensures.known
    ∙ ap (λ (s : Statement). known_after c.enter.new.self s) named ∙ ap (λ (known : Known). known_after known first) c.in_ok-enter-in-Some-first.ensures)
    ∙ left_after c.args.scopes.now first in
    let tree : statement_of c.args.statement.now ≡ ForAfter first (option_map expression_of c.in-For.condition) (option_map effect_of c.in-For.after) (statement_of c.in-For.body.value) =
    ap statement_of (c.in-For.is ∙ ap (λ first. made.For first c.in-For.condition c.in-For.after c.in-For.body) c.in-Some-first.is
    ∙ sym (rolls-For (Some c.in-Some-first.first) c.in-For.condition c.in-For.after c.in-For.body))
    ∙ fold-roll-Stmt Statement statement_step (stmts.For (Some c.in-Some-first.first) c.in-For.condition c.in-For.after c.in-For.body) in
    back ∙ ap (λ (s : Statement). known_after c.args.scopes.now s) (sym tree)
