use Rattle.std.proofs.Common.{◌≡◌, ◌<◌, ℕ, length, Some, sym, subst, ◌∙◌}
use Rattle.std.proofs.lemmas.Bool.{false≢true}
use Rattle.std.specs.Prelude.{slice_get}
use Rattle.alf_check.specs.CheckedPrograms.{seen, blocks_at, block_of}
use Rattle.left_ends.specs.Seen.{IsLast}
use Rattle.left_ends.proofs.Lasts.{root_node, has_block, no_return, empty_of}
use Rattle.left_ends.proofs.last.last_block.Goals as goal

pub block-block-requires-clause-block : goal.block-block-requires-clause-block
block-block-requires-clause-block c =
    let program = seen c.args.checked.now in
    let is : c.node-at.result.block ≡ Some c.in_ok-number.number = rw c.in_ok-number.is at c.branch-number.ensures in
    subst (λ (f : ℕ). c.in_ok-number.number < length (blocks_at program f)) (sym c.root.ensures.root)
    (has_block program c.args.graph.now c.args.node c.node-at.result.path.now c.node-at.result.block c.node-at.ensures.node c.in_ok-number.number
    (c.graphs_are_expansions.ensures program c.args.graph.now c.keeps.ensures c.requires.graph) c.requires.node
    (empty_of c.node-at.result.path.now (sym c.is_empty.ensures ∙ c.if-not-is_empty.false)) is)

pub returns-then-returns-clause-last : goal.returns-then-returns-clause-last
returns-then-returns-clause-last c =
    let program = seen c.args.checked.now in
    let is : c.node-at.result.block ≡ Some c.in_ok-number.number = rw c.in_ok-number.is at c.branch-number.ensures in
    let last : IsLast program c.args.graph.now c.args.node (block_of c.block-block.result.now) = record {
      number = c.in_ok-number.number;
      node = root_node program c.args.graph.now c.args.node c.node-at.result.path.now c.node-at.result.block c.node-at.ensures.node c.in_ok-number.number
          (empty_of c.node-at.result.path.now (sym c.is_empty.ensures ∙ c.if-not-is_empty.false)) is;
      at = subst (λ (f : ℕ). slice_get (blocks_at program f) c.in_ok-number.number ≡ Some (block_of c.block-block.result.now)) c.root.ensures.root c.block-block.ensures.at;
      returns = c.returns.ensures.0 c.if-returns.true;
    } in
    last

pub returns-else-returns-clause-none : goal.returns-else-returns-clause-none
returns-else-returns-clause-none c = λ none.
    let program = seen c.args.checked.now in
    let is : c.node-at.result.block ≡ Some c.in_ok-number.number = rw c.in_ok-number.is at c.branch-number.ensures in
    no_return program c.args.graph.now c.args.node c.node-at.result.path.now c.node-at.result.block c.node-at.ensures.node c.in_ok-number.number
    (block_of c.block-block.result.now)
    (empty_of c.node-at.result.path.now (sym c.is_empty.ensures ∙ c.if-not-is_empty.false)) is
    (subst (λ (f : ℕ). slice_get (blocks_at program f) c.in_ok-number.number ≡ Some (block_of c.block-block.result.now)) c.root.ensures.root c.block-block.ensures.at)
    (λ yes. false≢true (sym c.if-returns.false ∙ c.returns.ensures.1 yes))
