-- An `if` from its parts: what a box holds is what was put in it.
use Rattle.std.proofs.Common.{None, Some, ap, sym, ◌∙◌}
use Rattle.c_unit.specs.declared.statement.Stmt.{fold-roll-Stmt}
use Rattle.c_unit.specs.declared.statement.Stmt.TheOpen as stmts
use Rattle.c_unit.specs.declared.statement.Stmt.TheViews.{rolls-If}
use Rattle.c_unit.specs.Tree.{Statement, statement_of, statement_step}
use Rattle.c_statements.proofs.made.if_statement.Goals as goal

pub returns-in-None : goal.returns-in-None
returns-in-None c =
    rw c.in-None.is (ap statement_of (sym (rolls-If c.args.condition c.args.body None))
    ∙ fold-roll-Stmt Statement statement_step (stmts.If c.args.condition c.args.body None))

pub returns-in-Some : goal.returns-in-Some
returns-in-Some c =
    rw c.in-Some.is (ap statement_of (sym (rolls-If c.args.condition c.args.body (Some c.in-Some.otherwise)))
    ∙ fold-roll-Stmt Statement statement_step (stmts.If c.args.condition c.args.body (Some c.in-Some.otherwise)))
