use Rattle.item_runs.proofs.Doing.{is_cut}
use Rattle.item_runs.proofs.Functions.{functions_are_cut}
use Rattle.item_runs.proofs.alf_item_laws.blocks_do_what_their_items_do.Goals as goal

pub returns : goal.returns
returns c = record { blocks = is_cut; functions = functions_are_cut }
