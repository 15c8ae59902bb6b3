-- What is left to show of `apply`.
use Rattle.std.proofs.Common.{arith}
use Rattle.std.proofs.lemmas.Result.{on_ok_weaker}
use Rattle.std.proofs.lemmas.Option.{slice_get_within}
use Rattle.domain_core.specs.declared.event.Event.TheVariants.{Step, Merge}
use Rattle.worklist_rules.specs.EventLaws.{event_one_on}
use Rattle.abstract_exec.proofs.Moves.{on_ok_first, pool_kept, merge_few}
use Rattle.abstract_exec.proofs.pool.Pool.apply.Goals as goal

pub step-requires-clause-room : goal.step-requires-clause-room
step-requires-clause-room g c = c.requires.room c.in-Step.place c.in-Step.is

pub returns-in-Step-clause-happens : goal.returns-in-Step-clause-happens
returns-in-Step-clause-happens g c = rw c.in-Step.is (on_ok_first c.step.result _ _ c.step.ensures.happens)

pub returns-in-Step-clause-kept : goal.returns-in-Step-clause-kept
returns-in-Step-clause-kept g c =
    on_ok_weaker _
    (λ done. pool_kept g.S.Stepper.machine g.S.State.Lattice.order g.R.Lattice.order g.R.Recorder.recording c.args.self.now _ (Step c.in-Step.place) g.met.S.State.Lattice.is_order (g.met.S.Stepper.is_machine c.args.self.now.stepper c.requires.kept.kept.stepper) g.met.R.Lattice.is_order g.met.R.Recorder.is_recording c.requires.kept done.0 done.1)
    c.step.ensures.happens

pub returns-in-Step-clause-going_on : goal.returns-in-Step-clause-going_on
returns-in-Step-clause-going_on g c =
    on_ok_weaker _ (λ done. event_one_on g.S.Stepper.machine g.S.State.Lattice.order g.R.Lattice.order g.R.Recorder.recording c.args.self.now _ (Step c.in-Step.place) done.0) c.step.ensures.happens

pub returns-in-Step-clause-bad : goal.returns-in-Step-clause-bad
returns-in-Step-clause-bad g c = λ bad w happens.
    let (spot, found, is) = rw c.in-Step.is at happens in
    let within = slice_get_within c.args.self.now.spots c.in-Step.place spot found in
    let past = c.step.ensures.bad bad in
    absurd (omega arith)

pub returns-in-Merge-clause-happens : goal.returns-in-Merge-clause-happens
returns-in-Merge-clause-happens g c = rw c.in-Merge.is c.merge.ensures.happens

pub returns-in-Merge-clause-kept : goal.returns-in-Merge-clause-kept
returns-in-Merge-clause-kept g c =
    on_ok_weaker _
    (λ happens. pool_kept g.S.Stepper.machine g.S.State.Lattice.order g.R.Lattice.order g.R.Recorder.recording c.args.self.now _ (Merge c.in-Merge.i c.in-Merge.j) g.met.S.State.Lattice.is_order (g.met.S.Stepper.is_machine c.args.self.now.stepper c.requires.kept.kept.stepper) g.met.R.Lattice.is_order g.met.R.Recorder.is_recording c.requires.kept happens
    (merge_few g.S.Stepper.machine g.S.State.Lattice.order g.R.Lattice.order g.R.Recorder.recording c.args.self.now _ c.in-Merge.i c.in-Merge.j happens c.requires.kept.few))
    c.merge.ensures.happens

pub returns-in-Merge-clause-going_on : goal.returns-in-Merge-clause-going_on
returns-in-Merge-clause-going_on g c =
    on_ok_weaker _ (λ happens. event_one_on g.S.Stepper.machine g.S.State.Lattice.order g.R.Lattice.order g.R.Recorder.recording c.args.self.now _ (Merge c.in-Merge.i c.in-Merge.j) happens) c.merge.ensures.happens

pub returns-in-Merge-clause-bad : goal.returns-in-Merge-clause-bad
returns-in-Merge-clause-bad g c = rw c.in-Merge.is c.merge.ensures.bad
