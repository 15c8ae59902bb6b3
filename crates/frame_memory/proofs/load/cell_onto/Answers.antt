-- What is left to show of `cell_onto`: facts of the proof files, applied.
use Rattle.frame_memory.specs.StandingCells.{seen}
use Rattle.frame_memory.proofs.Results.{told_sized}
use Rattle.frame_memory.proofs.load.cell_onto.Goals as goal

pub bytes_onto-requires-clause-before_sized : goal.bytes_onto-requires-clause-before_sized
bytes_onto-requires-clause-before_sized c =
    let own = rw (c.in_ok-own.was, c.value.ensures) at c.value_onto.ensures in
    let told = rw c.u.ensures at c.fault_onto-told.ensures in
    told_sized c.args.size c.args.before c.in_ok-own.own c.fault_onto-told.result (seen c.args.cell.now.cell) c.requires.before_sized c.requires.cell_sized own told
