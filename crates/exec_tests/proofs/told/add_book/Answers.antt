use Rattle.std.proofs.Common.{◌≡◌, Some, length, arith}
use Rattle.recorder_rules.specs.GeneratedLaws.{length-generated}
use Rattle.recorder_rules.specs.LoopRules.{loop_tally}
use Rattle.exec_tests.proofs.told.add_book.Goals as goal

pub loop_of-requires : goal.loop_of-requires
loop_of-requires c =
    let long : length (loop_tally c.args.outline.now).scopes ≡ length c.args.outline.now.scopes = length-generated (length c.args.outline.now.scopes) (λ s. Some s) in
    omega (arith, c.requires.loops, long, c.loop-s-test.true, c.scope_count-s-end.ensures)
