-- What is left to show of `known_value`: facts of the proof files, applied.
use Rattle.std.specs.Prelude.{[], ◌∷◌}
use Rattle.std.proofs.lemmas.Option.{IfSome_then}
use Rattle.memory_model.specs.HeldFrames.{frame_of}
use Rattle.frame_memory.specs.StandingCells.{seen}
use Rattle.frame_memory.proofs.Results.{known_is, known_sized}
use Rattle.frame_memory.proofs.load.known_value.Goals as goal

pub returns-in-Some-clause-value : goal.returns-in-Some-clause-value
returns-in-Some-clause-value c =
    let kept = rw c.in-Some.is at c.kept_cell.ensures in
    IfSome_then c.known_in.result c.known_in.ensures
    (λ value is. known_is (frame_of c.args.slots.now) c.args.offset c.args.size (seen c.in-Some.cell.now.cell) value.now kept is)

pub returns-in-Some-clause-sized : goal.returns-in-Some-clause-sized
returns-in-Some-clause-sized c =
    let kept = rw c.in-Some.is at c.kept_cell.ensures in
    IfSome_then c.known_in.result c.known_in.ensures
    (λ value is. known_sized (frame_of c.args.slots.now) c.args.offset c.args.size (seen c.in-Some.cell.now.cell) value.now c.requires.frame_sized kept is)
