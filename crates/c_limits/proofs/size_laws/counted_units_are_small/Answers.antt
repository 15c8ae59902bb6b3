-- What is left to show of `counted_units_are_small`.
use Rattle.lowering_layout.specs.Texts.{IsIdentifier}
use Rattle.c_limits.specs.ObjectLaws.{objects_small, blocks_shallow, functions_few}
use Rattle.c_limits.proofs.size_laws.counted_units_are_small.Goals as goal

pub returns-clause-objects : goal.returns-clause-objects
returns-clause-objects c = objects_small IsIdentifier

pub returns-clause-blocks : goal.returns-clause-blocks
returns-clause-blocks c = blocks_shallow IsIdentifier

pub returns-clause-functions : goal.returns-clause-functions
returns-clause-functions c = functions_few IsIdentifier
