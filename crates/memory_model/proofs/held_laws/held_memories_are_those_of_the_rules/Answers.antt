-- What is left to show of `held_memories_are_those_of_the_rules`: facts of the proof files, applied.
use Rattle.memory_model.proofs.Held.{fresh_held, left_held, entered_held, frame_held, joined_held}
use Rattle.memory_model.proofs.held_laws.held_memories_are_those_of_the_rules.Goals as goal

pub returns-clause-fresh : goal.returns-clause-fresh
returns-clause-fresh c = fresh_held

pub returns-clause-left : goal.returns-clause-left
returns-clause-left c = left_held

pub returns-clause-entered : goal.returns-clause-entered
returns-clause-entered c = entered_held

pub returns-clause-frame : goal.returns-clause-frame
returns-clause-frame c = frame_held

pub returns-clause-joined : goal.returns-clause-joined
returns-clause-joined c = joined_held
