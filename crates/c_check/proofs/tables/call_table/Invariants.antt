-- The rows that stand, with those that are left, are all.
use Rattle.std.proofs.Common.{◌≡◌, ◌++◌, map, drop}
use Rattle.c_unit.specs.Tree.{external_of}
use Rattle.graph_walks.specs.Calls.{calls_of}
use Rattle.c_rules.specs.Recursion.{rows_of}
use Rattle.c_check.proofs.tables.call_table.Given as goal

abbrev pub invariant-loop-external : goal.invariant-loop-external
invariant-loop-external l =
    calls_of l.rows.items ++ rows_of l.functions.words l.functions.names (map external_of (drop l.external-index l.externals))
    ≡ rows_of l.functions.words l.functions.names (map external_of l.externals)
