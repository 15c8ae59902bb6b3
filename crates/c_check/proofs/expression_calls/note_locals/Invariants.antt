-- What is noted, with the calls that are left, are all.
use Rattle.std.proofs.Common.{◌≡◌, ◌++◌, map, drop}
use Rattle.c_unit.specs.Tree.{local_of}
use Rattle.c_rules.specs.Recursion.{calls_in_locals, numbers_at}
use Rattle.c_check.proofs.expression_calls.note_locals.Given as goal

abbrev pub invariant-loop-local : goal.invariant-loop-local
invariant-loop-local l =
    l.row.items ++ numbers_at l.functions.words l.functions.names (calls_in_locals (map local_of (drop l.local-index l.locals)))
    ≡ l.initial.row.items ++ numbers_at l.functions.words l.functions.names (calls_in_locals (map local_of l.locals))
