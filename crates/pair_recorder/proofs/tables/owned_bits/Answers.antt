-- What is left to show of `owned_bits`.
use Rattle.std.proofs.Common.{◌≡◌, ◌*◌, ◌/◌, ◌==◌, ◌&&◌, ◌||◌, ℕ, Bool, List, length, ap, ◌∙◌, arith}
use Rattle.std.proofs.lemmas.List.{with_items_is}
use Rattle.domain_core.specs.Outlines.{shape_of}
use Rattle.recorder_rules.specs.BitWords.{is_marked}
use Rattle.recorder_rules.specs.RowLaws.{row_low}
use Rattle.recorder_rules.specs.StepBitLaws.{placed_set, more_owned}
use Rattle.pair_recorder.proofs.tables.owned_bits.Goals as goal

pub loop-node-preserved : goal.loop-node-preserved
loop-node-preserved c =
    let w = c.words-width.result in
    let own = c.own_scope-own.result in
    let node = c.loop-node.node in
    let new = c.mark.new.words in
    let dm = c.deref_mut.result.now in
    let items = with_items_is c.loop-node.owned new (c.mark.auto.words ∙ c.deref_mut.ensures.len) in
    let len : length dm ≡ length c.args.outline.now.scopes * w = ap (λ (xs : List ℕ). length xs) c.deref_mut.ensures.value ∙ c.loop-node.invariant.0 in
    let width = c.words-width.ensures in
    let count = c.node_count-count.ensures in
    let below = c.loop-node-test.true in (
      ap (λ (xs : List ℕ). length xs) items ∙ c.mark.auto.words ∙ len,
      λ t a low within.
          ap (λ (xs : List ℕ). is_marked xs (t * w) a) (items ∙ c.mark.ensures)
          ∙ placed_set dm w own node (omega arith) (let f = row_low own w (node / 64) (length c.args.outline.now.scopes) c.own_scope-own.ensures.low (omega arith) in omega arith) t a (omega arith)
          ∙ ap (λ (x : Bool). x || ((t == own) && (a == node))) (ap (λ (xs : List ℕ). is_marked xs (t * w) a) c.deref_mut.ensures.value ∙ c.loop-node.invariant.1 t a low within)
          ∙ more_owned (shape_of c.args.outline.now) node own t a c.own_scope-own.ensures.own,
    )
