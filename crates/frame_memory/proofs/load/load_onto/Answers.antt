-- What is left to show of `load_onto`: facts of the proof files, applied.
use Rattle.std.proofs.Common.{◌∙◌}
use Rattle.memory_rules.specs.AbstractSets.{abstract_sets}
use Rattle.memory_rules.specs.Frames.{load_results}
use Rattle.memory_model.specs.HeldFrames.{frame_of}
use Rattle.frame_memory.specs.StandingCells.{seen}
use Rattle.frame_memory.proofs.Results.{kept_sized, kept_stands, bytes_stand, load_is, faults_are, sized_are}
use Rattle.frame_memory.proofs.load.load_onto.Goals as goal

pub cell_onto-requires-clause-cell_sized : goal.cell_onto-requires-clause-cell_sized
cell_onto-requires-clause-cell_sized c =
    let kept = rw c.in-Some.is at c.kept_cell.ensures in
    kept_sized (frame_of c.args.slots.now) c.args.offset c.args.size (seen c.in-Some.cell.now.cell) c.requires.frame_sized kept

pub returns-in-Some-clause-onto : goal.returns-in-Some-clause-onto
returns-in-Some-clause-onto c =
    let kept = rw c.in-Some.is at c.kept_cell.ensures in
    let m = frame_of c.args.slots.now in
    load_is m c.args.offset c.args.size c.args.before (seen c.in-Some.cell.now.cell) c.cell_onto.result
    (kept_stands m c.args.offset c.args.size (seen c.in-Some.cell.now.cell) kept) c.cell_onto.ensures

pub returns-in-Some-clause-faults : goal.returns-in-Some-clause-faults
returns-in-Some-clause-faults c =
    faults_are c.args.before (load_results abstract_sets (frame_of c.args.slots.now) c.args.offset c.args.size) c.cell_onto.result (returns-in-Some-clause-onto c)

pub returns-in-Some-clause-sized : goal.returns-in-Some-clause-sized
returns-in-Some-clause-sized c =
    sized_are (frame_of c.args.slots.now) c.args.offset c.args.size c.args.before c.cell_onto.result c.requires.size c.requires.frame_sized c.requires.before_sized
    (returns-in-Some-clause-onto c)

pub returns-in-None-clause-onto : goal.returns-in-None-clause-onto
returns-in-None-clause-onto c =
    let none = rw c.in-None.is at c.kept_cell.ensures in
    let m = frame_of c.args.slots.now in
    load_is m c.args.offset c.args.size c.args.before (seen c.unkept_cell.result.cell) c.cell_onto-in-None-2.result
    (c.unkept_cell.ensures ∙ bytes_stand m c.args.offset c.args.size none) c.cell_onto-in-None-2.ensures

pub returns-in-None-clause-faults : goal.returns-in-None-clause-faults
returns-in-None-clause-faults c =
    faults_are c.args.before (load_results abstract_sets (frame_of c.args.slots.now) c.args.offset c.args.size) c.cell_onto-in-None-2.result (returns-in-None-clause-onto c)

pub returns-in-None-clause-sized : goal.returns-in-None-clause-sized
returns-in-None-clause-sized c =
    sized_are (frame_of c.args.slots.now) c.args.offset c.args.size c.args.before c.cell_onto-in-None-2.result c.requires.size c.requires.frame_sized c.requires.before_sized
    (returns-in-None-clause-onto c)
