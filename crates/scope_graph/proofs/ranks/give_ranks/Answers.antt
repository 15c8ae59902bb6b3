-- What is left to show of `give_ranks`.
use Rattle.std.proofs.Common.{◌≡◌, ◌+◌, ℕ, suc, set, subst, arith}
use Rattle.graph_walks.specs.Tables.{rows_of}
use Rattle.scope_graph.specs.Ranking.{Into, IsStage}
use Rattle.scope_graph.proofs.Stages.{stage_first, stage_on}
use Rattle.scope_graph.proofs.ranks.give_ranks.Goals as goal

pub loop-rank-init : goal.loop-rank-init
loop-rank-init c = rw c.requires.clear (stage_first (Into (rows_of c.args.into.now)) c.args.count)

pub loop-rank-preserved : goal.loop-rank-preserved
loop-rank-preserved c =
    let r = c.loop-rank.rank in
    let next : suc r ≡ r + 1 = omega arith in
    let into = Into (rows_of c.args.into.now) in
    subst (λ (k : ℕ). IsStage into c.args.count k (set c.loop-rank.ranks c.least_ready-node.result r)) next
    (stage_on into c.args.count r c.loop-rank.ranks c.loop-rank.invariant c.loop-rank-test.true c.requires.within c.least_ready-node.result c.least_ready-node.ensures)

pub returns : goal.returns
returns c =
    let end : c.loop-rank.rank ≡ c.args.count = omega arith in
    subst (λ (k : ℕ). IsStage (Into (rows_of c.args.into.now)) c.args.count k c.loop-rank.ranks) end c.loop-rank.invariant
