-- What is noted, with the calls that are left, are all.
use Rattle.std.proofs.Common.{◌≡◌, ◌++◌, map, drop}
use Rattle.c_unit.specs.Tree.{statement_of, statements_of}
use Rattle.c_rules.specs.Recursion.{called_in, numbers_at}
use Rattle.c_check.proofs.call_statements.+statements.Given as goal

abbrev pub invariant-note_statements-loop-s : goal.invariant-note_statements-loop-s
invariant-note_statements-loop-s l =
    l.row.items ++ numbers_at l.functions.words l.functions.names (called_in (statements_of (map statement_of (drop l.s-index l.body))))
    ≡ l.initial.row.items ++ numbers_at l.functions.words l.functions.names (called_in (statements_of (map statement_of l.body)))
