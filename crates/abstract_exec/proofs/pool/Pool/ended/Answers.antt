use Rattle.std.proofs.Common.{◌≡◌, ap, arith}
use Rattle.abstract_exec.proofs.Moves.{node_in, left_in}
use Rattle.abstract_exec.proofs.pool.Pool.ended.Goals as goal

pub node-requires : goal.node-requires
node-requires g c =
    let within = node_in g.S.Stepper.machine g.S.State.Lattice.order g.R.Lattice.order g.R.Recorder.recording _ c.args.self.now c.self.view_is 0 c.at.result.now c.requires c.at.ensures in
    let same : c.behind-self.inside.node ≡ c.at.result.now.node = ap (λ spot. spot.node) c.behind-self.view_is in
    omega (arith, same, within.2)

pub returns : goal.returns
returns g c =
    let same : c.behind-self.inside.node ≡ c.at.result.now.node = ap (λ spot. spot.node) c.behind-self.view_is in
    left_in g.S.Stepper.machine g.S.State.Lattice.order g.R.Lattice.order g.R.Recorder.recording _ c.args.self.now c.self.view_is c.behind-self.inside.node c.at.result.now c.node.result.now c.at.ensures same c.node.ensures
