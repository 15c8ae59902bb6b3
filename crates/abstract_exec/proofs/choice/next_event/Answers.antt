-- What is left to show of `next_event`.
use Rattle.std.proofs.Common.{◌≡◌, ℕ, true, false, get_or, ap, subst, refl, arith}
use Rattle.lists.specs.MemberLaws.{contained}
use Rattle.worklist_rules.specs.Pools.{Spot}
use Rattle.abstract_exec.proofs.Choosing.{chosen_step, chosen_alone, chosen_merge}
use Rattle.abstract_exec.proofs.choice.next_event.Goals as goal

pub bounds-points-at : goal.bounds-points-at
bounds-points-at g c =
    let low = c.requires.nodes c.at.result.now (contained c.args.places.now c.first_least-first.result c.at.result.now c.at.ensures) in
    let same : c.behind-places.inside.node ≡ c.at.result.now.node = ap (λ (s : Spot g.row.T.Denot g.row.R.Denot). s.node) c.behind-places.view_is in
    omega arith

pub returns-then-not-points-at-clause-choice : goal.returns-then-not-points-at-clause-choice
returns-then-not-points-at-clause-choice g c =
    let same : c.behind-places.inside.node ≡ c.at.result.now.node = ap (λ (s : Spot g.row.T.Denot g.row.R.Denot). s.node) c.behind-places.view_is in
    chosen_step c.args.places.now c.args.points.now c.first_least-first.result c.at.result.now c.first_least-first.ensures c.at.ensures
    (c.requires.nodes c.at.result.now (contained c.args.places.now c.first_least-first.result c.at.result.now c.at.ensures))
    (subst (λ (n : ℕ). get_or c.args.points.now n false ≡ false) same c.if-not-points-at.true)

pub returns-in-Some-clause-choice : goal.returns-in-Some-clause-choice
returns-in-Some-clause-choice g c =
    let same : c.behind-places.inside.node ≡ c.at.result.now.node = ap (λ (s : Spot g.row.T.Denot g.row.R.Denot). s.node) c.behind-places.view_is in
    chosen_merge c.args.places.now c.args.points.now c.first_least-first.result c.at.result.now c.first_least-first.ensures c.at.ensures
    (c.requires.nodes c.at.result.now (contained c.args.places.now c.first_least-first.result c.at.result.now c.at.ensures)) c.in-Some.second
    (subst (λ (n : ℕ). get_or c.args.points.now n false ≡ true) same c.if-not-points-at.false)
    (rw c.in-Some.is at c.in_ok-second.ensures.next)

pub returns-in-None-clause-choice : goal.returns-in-None-clause-choice
returns-in-None-clause-choice g c =
    chosen_alone c.args.places.now c.args.points.now c.first_least-first.result c.at.result.now c.first_least-first.ensures c.at.ensures
    (c.requires.nodes c.at.result.now (contained c.args.places.now c.first_least-first.result c.at.result.now c.at.ensures))
    ((rw c.in-None.is at c.in_ok-second.ensures.none) refl)
