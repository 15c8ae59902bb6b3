-- Work has one ending by its type.
use Rattle.command_plans.specs.WorkLaws.{ends_one}
use Rattle.sweet_cli.specs.Table.{task_of}
use Rattle.sweet_cli.proofs.laws.one_answer.Goals as goal

pub returns : goal.returns
returns c = λ words files. ends_one (task_of words).work files
