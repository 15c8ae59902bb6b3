-- Parts of statements that may be missing.
--   stated first         the statement of a box, if there is one
--   calls_if_stated s    the calls of a statement, if there is one
use Rattle.std.specs.Prelude.{ℕ, List, [], Option, Some, None, Box}
use Rattle.std.specs.declared.alloc.Global.{Global}
use Rattle.c_unit.specs.declared.statement.Stmt.{Stmt}
use Rattle.c_unit.specs.Tree.{Statement, statement_of}
use Rattle.c_rules.specs.Recursion.{calls_in}

abbrev pub stated : Option (Box Stmt Global) → Option Statement
stated None = None
stated (Some s) = Some (statement_of s.value)

abbrev pub calls_if_stated : Option Statement → List ℕ
calls_if_stated None = []
calls_if_stated (Some s) = calls_in s
