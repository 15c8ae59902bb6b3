-- What is left to show of `lists_have_room`.
use Rattle.flow_recorders.proofs.WorkedRows.{single_room, any_room}
use Rattle.flow_recorders.proofs.worked.lists_have_room.Goals as goal

pub returns-clause-single : goal.returns-clause-single
returns-clause-single c = single_room

pub returns-clause-all : goal.returns-clause-all
returns-clause-all c = any_room
