use Rattle.std.proofs.Common.{◌≡◌, ℕ, length, arith, subst}
use Rattle.alf_check.specs.CheckedPrograms.{seen}
use Rattle.flow_graph.specs.Places.{nodes_of}
use Rattle.flow_graph.specs.Listing.{IsListed, IsDoneBefore}
use Rattle.flow_graph.proofs.Among.{nodes_long}
use Rattle.flow_graph.proofs.Listing.{all_listed}
use Rattle.flow_graph.proofs.edges.edges_between.Goals as goal

pub returns : goal.returns
returns c =
    let long = nodes_long c.args.places.now in
    let past = c.loop-from-test.false in
    let within = c.loop-from.auto.from-end in
    let all : c.loop-from.from ≡ length (nodes_of c.args.places.now) = omega arith in
    all_listed (seen c.args.checked.now) (nodes_of c.args.places.now) c.loop-from.edges.items
    (subst (λ (k : ℕ). IsListed (IsDoneBefore (seen c.args.checked.now) (nodes_of c.args.places.now) k) c.loop-from.edges.items) all c.loop-from.invariant)
