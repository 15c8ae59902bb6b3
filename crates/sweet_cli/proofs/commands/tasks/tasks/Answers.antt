-- A text that was printed tells response times.
use Rattle.command_plans.specs.Log.{log_of}
use Rattle.sweet_cli.proofs.JudgedTasks.{tells_responses}
use Rattle.sweet_cli.proofs.commands.tasks.tasks.Goals as goal

pub returns-clause-promise : goal.returns-clause-promise
returns-clause-promise g c =
    tells_responses c.a_tasks_file_has_one_answer.ensures.keep c.every_job_finishes_in_its_response_time.ensures.all c.args.file.now (g.F.Shelf.state c.args.shelf.now).files
    (log_of (g.F.Shelf.state c.args.shelf.now)) c.in_ok-text.text.items (log_of (g.F.Shelf.state c.answering.new.shelf)) c.in_ok-text.ensures.ends.0
