use Rattle.std.proofs.lemmas.List.Filters.{dedup_is}
use Rattle.std.proofs.lemmas.List.Kept.{Contains-dedup_nat, Contains-from_dedup, AllPairs-from_increasing}
use Rattle.std.proofs.lemmas.List.Sorted.{Contains-permutation, IsPermutation-sym}
use Rattle.std.proofs.lemmas.Map.Keys.{IsStrictlyIncreasing-dedup}
use Rattle.flow_graph.proofs.Targets.{whole_read, among_targets, targets_among}
use Rattle.flow_graph.proofs.goals.target_blocks.Goals as goal

pub returns-clause-each : goal.returns-clause-each
returns-clause-each c =
    let is = dedup_is _ _ _ c.dedup.ensures.filtered in
    let moved = c.sort_unstable.ensures.permutation in
    let read = whole_read _ c.args.targets.now _ c.args.others c.loop-target-test.false c.loop-target.invariant in
    λ to. (
      λ h. among_targets c.args.targets.now c.args.others to (rw read at (Contains-permutation _ _ to (IsPermutation-sym _ _ moved) (Contains-from_dedup _ _ to (rw is at h)))),
      λ h. rw is (Contains-dedup_nat _ to (Contains-permutation _ _ to moved (rw read (targets_among c.args.targets.now c.args.others to h)))),
    )

pub returns-clause-ascends : goal.returns-clause-ascends
returns-clause-ascends c =
    let is = dedup_is _ _ _ c.dedup.ensures.filtered in
    rw is (AllPairs-from_increasing _ (IsStrictlyIncreasing-dedup _ c.sort_unstable.ensures.sorted))
