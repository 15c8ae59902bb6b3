use Rattle.std.proofs.Common.{arith, sym, ◌∙◌, ◌+◌, ◌-◌, ◌/◌, ℕ}
use Rattle.flow_graph.specs.Places.{node_at}
use Rattle.flow_graph.proofs.Among.{nodes_long, low_before, high_after, found_at}
use Rattle.flow_graph.proofs.place.position.Goals as goal

pub loop-low-preserved-in-Less : goal.loop-low-preserved-in-Less
loop-low-preserved-in-Less c =
    let middle : ℕ = c.loop-low.low + (c.loop-low.high - c.loop-low.low) / 2 in
    let long = nodes_long c.args.places.now in
    let within = c.loop-low.invariant.within in
    record {
      low = omega arith;
      within = within;
      before = low_before c.args.places.now middle _ (omega arith) c.index-places-middle.is c.requires (node_at c.args.path.now c.args.block) (sym c.compare.ensures ∙ c.in-Less.is);
      after = c.loop-low.invariant.after;
    }

pub returns-in-Equal-clause-found : goal.returns-in-Equal-clause-found
returns-in-Equal-clause-found c =
    let middle : ℕ = c.loop-low.low + (c.loop-low.high - c.loop-low.low) / 2 in
    let long = nodes_long c.args.places.now in
    let within = c.loop-low.invariant.within in
    found_at c.args.places.now middle _ (omega arith) c.index-places-middle.is c.requires (node_at c.args.path.now c.args.block) (sym c.compare.ensures ∙ c.in-Equal.is)

pub loop-low-preserved : goal.loop-low-preserved
loop-low-preserved c =
    let middle : ℕ = c.loop-low.low + (c.loop-low.high - c.loop-low.low) / 2 in
    let long = nodes_long c.args.places.now in
    let within = c.loop-low.invariant.within in
    record {
      low = omega arith;
      within = omega arith;
      before = c.loop-low.invariant.before;
      after = high_after c.args.places.now middle _ (omega arith) c.index-places-middle.is c.requires (node_at c.args.path.now c.args.block) (sym c.compare.ensures ∙ c.in-Greater.is);
    }
