-- What is left to show of `followed`.
use Rattle.std.proofs.Common.{◌≡◌, ℕ, List, sym, subst}
use Rattle.worklist_rules.specs.Kept.{IsPlaced}
use Rattle.worklist_rules.specs.Successors.{AreAlong}
use Rattle.worklist_rules.specs.StepLaws.{faults_of}
use Rattle.abstract_exec.proofs.Stepping.{next_are_along}
use Rattle.abstract_exec.proofs.step.followed.Goals as goal

pub spread-requires-clause-book : goal.spread-requires-clause-book
spread-requires-clause-book g c =
    let placed = subst (IsPlaced c.args.outline.now (g.S.Stepper.machine c.args.stepper.now) g.R.Recorder.recording 4294967293) (sym c.place.view_is) c.requires.placed in
    rw c.in_ok-collect_faults.ensures
    (faults_of g.R.Lattice.order g.R.Recorder.recording g.met.R.Recorder.is_recording c.args.outline.now c.place.inside.recorder c.place.inside.node c.args.book.now (record { suited = record { suits = c.requires.suits; kept = c.kept.ensures }; recorder = placed.is_of; book = c.requires.book }) placed.in_range c.in_ok-next.field-0.faults).0

pub spread-requires-clause-along : goal.spread-requires-clause-along
spread-requires-clause-along g c =
    let m = g.S.Stepper.machine c.args.stepper.now in
    let placed = subst (IsPlaced c.args.outline.now m g.R.Recorder.recording 4294967293) (sym c.place.view_is) c.requires.placed in
    let next : c.in_ok-next.field-0.next.items ≡ m.next c.place.inside.node c.place.inside.state = c.in_ok-next.ensures.next in
    subst (λ (xs : List (ℕ × g.row.S-State.Denot)). AreAlong c.args.outline.now c.place.inside.node xs) (sym next) (next_are_along c.args.outline.now m c.kept.ensures c.requires.along c.place.inside.node c.place.inside.state placed.fits)
