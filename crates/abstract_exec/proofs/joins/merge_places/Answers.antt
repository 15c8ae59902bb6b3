-- What is left to show of `merge_places`.
use Rattle.std.proofs.Common.{◌≡◌, ◌∷◌, ◌++◌, take, drop, slice_get, slice_set, Some}
use Rattle.std.specs.List.{remove}
use Rattle.std.proofs.lemmas.Result.{on_ok_weaker}
use Rattle.worklist_rules.specs.Pools.{Spot}
use Rattle.worklist_rules.specs.Events.{met}
use Rattle.abstract_exec.proofs.Joining.{merged_in}
use Rattle.abstract_exec.proofs.joins.merge_places.Goals as goal

pub returns : goal.returns
returns g c =
    let met_is = c.in_ok-place.ensures in
    let seen = c.second.view_is in
    let place : c.in_ok-place.place ≡ met g.T.Lattice.order g.R.Lattice.order c.in_ok-first.first c.in_ok-second.second = cc in
    let step : (c.put.new.self ≡ take c.args.i c.take-2.new.self ++ c.in_ok-place.place ∷ drop c.args.i c.take-2.new.self) → (a b : Spot g.row.T.Denot g.row.R.Denot) → slice_get c.args.places.now c.args.i ≡ Some a → slice_get c.args.places.now c.args.j ≡ Some b
    → c.put.new.self ≡ remove (slice_set c.args.places.now c.args.i (met g.T.Lattice.order g.R.Lattice.order a b)) c.args.j =
    λ put a b first second.
    merged_in g.T.Lattice.order g.R.Lattice.order c.args.places.now c.take.new.self c.take-2.new.self c.put.new.self c.args.i c.args.j c.in_ok-first.first c.in_ok-second.second c.in_ok-place.place a b c.requires.before c.in_ok-second.ensures.others c.in_ok-first.ensures.others c.in_ok-second.ensures.element c.in_ok-first.ensures.element place put first second in
    on_ok_weaker c.put.result step c.put.ensures
