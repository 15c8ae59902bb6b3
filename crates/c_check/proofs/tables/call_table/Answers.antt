-- One more is gone through.
use Rattle.std.proofs.Common.{◌+◌, ◌++◌, ℕ, List, map, drop, ap, ◌∙◌}
use Rattle.c_unit.specs.Tree.{external_of}
use Rattle.graph_walks.specs.Calls.{calls_of}
use Rattle.c_rules.specs.Recursion.{rows_of}
use Rattle.c_check.proofs.Rows.{noted}
use Rattle.c_check.proofs.tables.call_table.Goals as goal

pub loop-external-preserved : goal.loop-external-preserved
loop-external-preserved c =
    let words = c.args.functions.now.words in
    let names = c.args.functions.now.names in
    let xs = c.args.externals.now in
    let i = c.loop-external.external-index in
    ap (λ (rows : List (List ℕ)). rows ++ rows_of words names (map external_of (drop (i + 1) xs))) c.in_ok-note_external.ensures
    ∙ noted words names (calls_of c.loop-external.rows.items) xs i c.external-item.result c.loop-external-test.true c.external-item.is ∙ c.loop-external.invariant
