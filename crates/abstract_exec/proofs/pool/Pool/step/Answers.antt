use Rattle.std.proofs.Common.{◌<◌, length, arith}
use Rattle.abstract_exec.proofs.Moves.{element_at, placed_in, node_in, step_happens}
use Rattle.abstract_exec.proofs.pool.Pool.step.Goals as goal

pub step_place-requires-clause-placed : goal.step_place-requires-clause-placed
step_place-requires-clause-placed g c = λ spot found. placed_in g.S.Stepper.machine g.S.State.Lattice.order g.R.Lattice.order g.R.Recorder.recording _ c.args.self.now c.self.view_is c.args.place spot c.requires.kept c.requires.room found

pub index-requires : goal.index-requires
index-requires g c =
    let low : c.args.place < length c.self.inside.places = omega (arith, c.len.ensures, c.if-place-len.false) in
    let one = element_at c.self.inside.places c.args.place low in
    let here = c.in_ok-node.ensures.told one.0 one.1 in
    let within = node_in g.S.Stepper.machine g.S.State.Lattice.order g.R.Lattice.order g.R.Recorder.recording _ c.args.self.now c.self.view_is c.args.place one.0 c.requires.kept one.1 in
    omega (arith, here.0, within.0)

pub index_mut-requires : goal.index_mut-requires
index_mut-requires g c =
    let low : c.args.place < length c.self.inside.places = omega (arith, c.len.ensures, c.if-place-len.false) in
    let one = element_at c.self.inside.places c.args.place low in
    let here = c.in_ok-node.ensures.told one.0 one.1 in
    let within = node_in g.S.Stepper.machine g.S.State.Lattice.order g.R.Lattice.order g.R.Recorder.recording _ c.args.self.now c.self.view_is c.args.place one.0 c.requires.kept one.1 in
    omega (arith, here.0, within.0)

pub index_mut-requires-2 : goal.index_mut-requires-2
index_mut-requires-2 g c =
    let low : c.args.place < length c.self.inside.places = omega (arith, c.len.ensures, c.if-place-len.false) in
    let one = element_at c.self.inside.places c.args.place low in
    let here = c.in_ok-node.ensures.told one.0 one.1 in
    let within = node_in g.S.Stepper.machine g.S.State.Lattice.order g.R.Lattice.order g.R.Recorder.recording _ c.args.self.now c.self.view_is c.args.place one.0 c.requires.kept one.1 in
    omega (arith, here.0, within.1)

pub returns-clause-happens : goal.returns-clause-happens
returns-clause-happens g c =
    let low : c.args.place < length c.self.inside.places = omega (arith, c.len.ensures, c.if-place-len.false) in (
      step_happens g.S.Stepper.machine g.S.State.Lattice.order g.R.Lattice.order g.R.Recorder.recording _ c.args.self.now c.self.view_is c.args.place c.in_ok-node.node c.in_ok-node.faults c.index.result.now c.union.result c.step_place.new.places c.step_place.new.book
          c.requires.kept low c.in_ok-node.ensures.told c.in_ok-node.ensures.places c.in_ok-node.ensures.book c.index.ensures c.union.ensures,
      c.in_ok-node.ensures.few,
    )
