-- What is left to show of `the_rest_stands_after_the_items_of_a_statement`.
use Rattle.lowering_simulation.specs.PlaceLaws.{after_items}
use Rattle.lowering_simulation.proofs.label_laws.the_rest_stands_after_the_items_of_a_statement.Goals as goal

pub returns : goal.returns
returns c = after_items
