-- What is left to show of `names_can_be_written`.
use Rattle.lowering_layout.specs.NameTextLaws.{function_is_name, label_is_name, call_is_name, object_is_name}
use Rattle.lowering_layout.proofs.name_laws.names_can_be_written.Goals as goal

pub returns-clause-functions : goal.returns-clause-functions
returns-clause-functions c = function_is_name

pub returns-clause-labels : goal.returns-clause-labels
returns-clause-labels c = label_is_name

pub returns-clause-results : goal.returns-clause-results
returns-clause-results c = call_is_name

pub returns-clause-objects : goal.returns-clause-objects
returns-clause-objects c = object_is_name
