use Rattle.std.proofs.Common.{◌<◌, ◌*◌, sym, subst, ℕ, arith}
use Rattle.response_time.proofs.Crowding.{is_full, left_by_all}
use Rattle.response_time.proofs.shares.is_crowded_out.Goals as goal

pub returns-then-share-free-clause-yes : goal.returns-then-share-free-clause-yes
returns-then-share-free-clause-yes c = λ yes.
    is_full c.args.tasks.now c.args.task.now _ _ c.share_of-share.result c.other-item.result c.requires.range.cost c.loop-other-test.true c.other-item.is c.loop-other.invariant.0 c.share_of-share.ensures
    c.if-share-free.true

pub is_too_little-requires : goal.is_too_little-requires
is_too_little-requires c = let rest = c.loop-other.invariant.0 in omega arith

pub returns-clause-yes : goal.returns-clause-yes
returns-clause-yes c = λ yes.
    subst (λ (n : ℕ). c.args.task.now.deadline * n < c.args.task.now.cost * 79228162514264337593543950336)
    (left_by_all c.args.tasks.now c.args.task.now _ c.loop-other.free c.loop-other-test.false c.loop-other.invariant.0) (c.is_too_little.ensures.0 yes)

pub returns-clause-only : goal.returns-clause-only
returns-clause-only c = λ little.
    let free = left_by_all c.args.tasks.now c.args.task.now _ c.loop-other.free c.loop-other-test.false c.loop-other.invariant.0 in
    c.is_too_little.ensures.1 (subst (λ (n : ℕ). c.args.task.now.deadline * n < c.args.task.now.cost * 79228162514264337593543950336) (sym free) little)
