-- What is left to show of `book`.
use Rattle.std.proofs.Common.{◌*◌}
use Rattle.recorder_rules.specs.BitWords.{words_for}
use Rattle.recorder_rules.specs.StepBitLaws.{none_marked}
use Rattle.recorder_rules.specs.PairBitLaws.{begun_book}
use Rattle.pair_recorder.proofs.pairs.PairsRecorder.book.Goals as goal

pub returns : goal.returns
returns c =
    let n = c.node_count-count.result in
    begun_book c.args.outline.now n c.scope_count-scopes.result c.in_ok-owned.owned.items c.in_ok-rows.rows.items c.node_count-count.ensures c.scope_count-scopes.ensures c.in_ok-owned.ensures.owned
    (λ a b low within. none_marked c.in_ok-rows.rows.items (n * c.words-width.result) (c.in_ok-rows.ensures.items_if_clones_equal (λ y e. e)) (a * words_for n) b)
