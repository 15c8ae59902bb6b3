use Rattle.cost_table.proofs.OneTasks.{tasks_one}
use Rattle.cost_table.proofs.KeptTasks.{means_tasks}
use Rattle.cost_table.proofs.laws.a_tasks_file_has_one_answer.Goals as goal

pub returns-clause-tasks : goal.returns-clause-tasks
returns-clause-tasks c = tasks_one

pub returns-clause-keep : goal.returns-clause-keep
returns-clause-keep c = means_tasks
