-- What is left to show of `parts_are_told_by_what_they_stand_for`: facts of the specs, applied.
use Rattle.memory_model.specs.KeptMemoryLaws.{parts_are, is_within, memory_is, made_is}
use Rattle.memory_model.proofs.seen_laws.parts_are_told_by_what_they_stand_for.Goals as goal

pub returns-clause-parts : goal.returns-clause-parts
returns-clause-parts c = parts_are

pub returns-clause-within : goal.returns-clause-within
returns-clause-within c = is_within

pub returns-clause-memory : goal.returns-clause-memory
returns-clause-memory c = memory_is

pub returns-clause-sized : goal.returns-clause-sized
returns-clause-sized c = made_is
