use Rattle.std.proofs.Common.{◌≡◌, length, true, arith, rules}
use Rattle.run_replays.proofs.Held.{inside_more, all_inside}
use Rattle.run_replays.proofs.values.outside.Goals as goal

pub loop-k-preserved : goal.loop-k-preserved
loop-k-preserved c =
    let low = c.loop-k-test.true in
    let long = c.requires.one_each in
    let yes : c.is_within.result ≡ true = search rules in
    inside_more c.args.rows.now c.args.values.now c.loop-k.k _ _ low (omega (arith, low, long)) (c.is_within.ensures.0 yes) c.loop-k.invariant

pub returns-clause-none : goal.returns-clause-none
returns-clause-none c =
    all_inside c.args.rows.now c.args.values.now c.requires.one_each
    (λ k low. let all : c.loop-k.k ≡ length c.args.rows.now = search rules in c.loop-k.invariant k (omega (arith, low, all)))
