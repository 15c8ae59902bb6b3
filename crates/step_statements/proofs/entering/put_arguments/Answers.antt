use Rattle.std.proofs.Common.{refl}
use Rattle.alf_check.specs.CheckedPrograms.{seen}
use Rattle.memory_model.specs.KeptMemories.{memory_in, rows_of}
use Rattle.step_statements.proofs.CallLaws.{first_argument, argument_there}
use Rattle.step_statements.proofs.entering.put_arguments.Goals as goal

pub fill-requires-clause-cell : goal.fill-requires-clause-cell
fill-requires-clause-cell c =
    let parts = c.loop-frame.memory in
    let frames = c.loop-frame.invariant.frames in
    let frame = c.in-Some.frame.now in
    let value = c.in-Some-split_first.value.now in
    let first = first_argument parts frame c.in-Some.others.now c.loop-frame.rest.now value c.in-Some-split_first.further.now c.loop-frame.left.now c.in-Some.ensures.cases.0 c.in-Some-split_first.ensures.cases.0 frames in
    argument_there (seen parts.checked).frames frames.owner (memory_in parts).runs frame value (rows_of parts.checked) refl frames.active first.0
