-- The first reading of each name is what the files hold.
use Rattle.command_plans.specs.ReadingLaws.{readings_held}
use Rattle.command_plans.proofs.laws.what_was_read_can_be_held.Goals as goal

pub returns : goal.returns
returns c = readings_held
