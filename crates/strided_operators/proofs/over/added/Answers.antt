use Rattle.progressions.specs.Progressions.{IsPlaced}
use Rattle.progressions.specs.ProgressionLaws.{placed_small}
use Rattle.strided_rules.specs.PlacedLaws.{norm_placed, join_placed}
use Rattle.strided_operators.proofs.over.added.Goals as goal

pub joined-requires-clause-p : goal.joined-requires-clause-p
joined-requires-clause-p c =
    let old : IsPlaced c.args.size c.in-Some.before = rw c.in-Some.is at c.requires.so_far in
    placed_small _ _ c.requires.least c.requires.most old

pub joined-requires-clause-q : goal.joined-requires-clause-q
joined-requires-clause-q c = rw c.normed-placed.ensures (placed_small _ _ c.requires.least c.requires.most (norm_placed c.args.size c.args.p.now c.requires.least c.requires.p.progression))

pub returns-in-None-clause-placed : goal.returns-in-None-clause-placed
returns-in-None-clause-placed c = rw c.normed-placed.ensures (norm_placed c.args.size c.args.p.now c.requires.least c.requires.p.progression)

pub returns-in-Some-clause-placed : goal.returns-in-Some-clause-placed
returns-in-Some-clause-placed c =
    let new : IsPlaced c.args.size c.normed-placed.result = rw c.normed-placed.ensures (norm_placed c.args.size c.args.p.now c.requires.least c.requires.p.progression) in
    let old : IsPlaced c.args.size c.in-Some.before = rw c.in-Some.is at c.requires.so_far in
    rw c.joined.ensures (join_placed c.args.size _ _ c.requires.least old.progression new.progression)
