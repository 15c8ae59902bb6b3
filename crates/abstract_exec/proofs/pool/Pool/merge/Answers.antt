use Rattle.std.proofs.Common.{subst, sym}
use Rattle.std.proofs.lemmas.Bool.{both_ways}
use Rattle.std.proofs.lemmas.Option.{slice_get_within}
use Rattle.abstract_exec.specs.Explorations.{IsPool}
use Rattle.abstract_exec.proofs.Moves.{alike_all, no_merge, merge_happens}
use Rattle.abstract_exec.proofs.pool.Pool.merge.Goals as goal

pub merge_places-requires-clause-before : goal.merge_places-requires-clause-before
merge_places-requires-clause-before g c = (c.are_one_position.ensures.0 c.if-not-are_one_position.false).2

pub merge_places-requires-clause-within : goal.merge_places-requires-clause-within
merge_places-requires-clause-within g c =
    let told = c.are_one_position.ensures.0 c.if-not-are_one_position.false in
    slice_get_within _ c.args.j told.1 told.4

pub merge_places-requires-clause-alike : goal.merge_places-requires-clause-alike
merge_places-requires-clause-alike g c =
    let told = c.are_one_position.ensures.0 c.if-not-are_one_position.false in
    let pool = subst (IsPool g.S.Stepper.machine g.R.Recorder.recording) (sym c.self.view_is) c.requires.kept in
    alike_all g.S.Stepper.machine g.S.State.Lattice.order g.R.Lattice.order g.R.Recorder.recording _ c.args.i c.args.j (g.met.S.Stepper.is_machine _ pool.kept.stepper) g.met.R.Recorder.is_recording pool.kept told

pub returns-then-not-are_one_position-clause-bad : goal.returns-then-not-are_one_position-clause-bad
returns-then-not-are_one_position-clause-bad g c = λ bad v happens.
    no_merge g.S.Stepper.machine g.S.State.Lattice.order g.R.Lattice.order g.R.Recorder.recording _ c.args.self.now c.self.view_is c.args.i c.args.j v (λ both. both_ways c.are_one_position.result c.if-not-are_one_position.true (c.are_one_position.ensures.1 both)) happens

pub returns-clause-happens : goal.returns-clause-happens
returns-clause-happens g c =
    merge_happens g.S.Stepper.machine g.S.State.Lattice.order g.R.Lattice.order g.R.Recorder.recording _ c.args.self.now c.self.view_is c.args.i c.args.j c.merge_places.new.places (c.are_one_position.ensures.0 c.if-not-are_one_position.false) c.in_ok-merge_places.ensures
