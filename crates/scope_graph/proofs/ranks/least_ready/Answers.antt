-- What is left to show of `least_ready`.
use Rattle.std.proofs.Common.{◌≡◌, ◌≤◌, ℕ, get_or, inl, inr, subst, arith}
use Rattle.std.proofs.lemmas.Bool.{cases_lt}
use Rattle.graph_walks.specs.Tables.{rows_of}
use Rattle.scope_graph.specs.Ranking.{Into, IsDue}
use Rattle.scope_graph.proofs.Stages.{some_ready}
use Rattle.scope_graph.proofs.ranks.least_ready.Goals as goal
use Rattle.scope_graph.proofs.ranks.least_ready.Goals.{else-ranks-node-via-then-ranks-node+else-is_ready, else-ranks-node-via-else-ranks-node}

pub is_ready-requires-clause-within : goal.is_ready-requires-clause-within
is_ready-requires-clause-within c = λ u n there. rw c.requires.stage.long (c.requires.within u n there)

pub loop-node-preserved : goal.loop-node-preserved
loop-node-preserved c = λ m low is ready.
    elim (cases_lt m c.loop-node.node) [
      | inl old ↦ c.loop-node.invariant m old is ready
      | inr new ↦
          let same : m ≡ c.loop-node.node = omega arith in
          let here : get_or c.args.ranks.now c.loop-node.node 0 ≡ c.args.count = subst (λ (n : ℕ). get_or c.args.ranks.now n 0 ≡ c.args.count) same is in
          elim c.else-ranks-node.branch [
            | else-ranks-node-via-then-ranks-node+else-is_ready w ↦
                w.is_ready.ensures.waits w.if-is_ready.false (subst (λ (n : ℕ). IsDue (Into (rows_of c.args.into.now)) (λ k. get_or c.args.ranks.now k 0) c.args.rank n) same ready)
            | else-ranks-node-via-else-ranks-node w ↦ w.if-ranks-node.false here
          ]
    ]

pub unreachable-requires : goal.unreachable-requires
unreachable-requires c =
    some_ready (Into (rows_of c.args.into.now)) c.args.count c.args.rank c.args.ranks.now c.requires.stage c.requires.some c.requires.within c.requires.falling.0 c.requires.falling.1
    (λ n inside is ready. c.loop-node.invariant n (let done : c.args.count ≤ c.loop-node.node = c.loop-node-test.false in omega arith) is ready)
