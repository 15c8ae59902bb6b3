use Rattle.std.proofs.Common.{◌≡◌, Some, length, arith}
use Rattle.domain_core.specs.Outlines.{shape_of}
use Rattle.recorder_rules.specs.GeneratedLaws.{length-generated}
use Rattle.recorder_rules.specs.LoopRules.{loop_tally, count_tally, counted_scope}
use Rattle.exec_tests.proofs.books.told.Goals as goal

pub loop_of-requires : goal.loop_of-requires
loop_of-requires c =
    let ((totals_long, (loop_tally_is, loops_long)), counts) = c.in_ok-enter_all.ensures.book in
    let long : length (loop_tally c.args.outline.now).scopes ≡ length c.args.outline.now.scopes = length-generated (length c.args.outline.now.scopes) (λ s. Some s) in
    omega (arith, loops_long, long, c.loop-s-test.true, c.scope_count-s-end.ensures)

pub count_of-requires : goal.count_of-requires
count_of-requires c =
    let (loops, ((count_tally_is, counts_long), pairs)) = c.in_ok-enter_all.ensures.book in
    let long : length (count_tally c.args.outline.now).scopes ≡ length c.args.outline.now.nodes = length-generated (length c.args.outline.now.nodes) (counted_scope (shape_of c.args.outline.now)) in
    omega (arith, counts_long, long, c.loop-n-2-test.true, c.node_count-n-end-2.ensures)
