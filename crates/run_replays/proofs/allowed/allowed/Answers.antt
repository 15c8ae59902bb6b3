use Rattle.std.proofs.Common.{◌+◌, ℕ, List, sym, subst}
use Rattle.run_replays.proofs.Allowing.{AllowSoFar, allow_at}
use Rattle.run_replays.proofs.allowed.allowed.Goals as goal

pub loop-fact-preserved : goal.loop-fact-preserved
loop-fact-preserved c =
    let o = c.args.outline.now in
    let facts = c.args.facts.now in
    let k = c.loop-fact.fact-index in
    subst (λ (visits : List ℕ). AllowSoFar o facts (k + 1) visits) (sym c.allow.ensures)
    (allow_at o facts c.requires.once k _ c.loop-fact.visits.items c.loop-fact-test.true c.loop-fact.invariant)
