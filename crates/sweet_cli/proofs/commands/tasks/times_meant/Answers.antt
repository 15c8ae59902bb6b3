-- The response times, or the line of the first task that is late, are the only answer.
use Rattle.std.proofs.Common.{ℕ, List, Err, refl, sym, subst}
use Rattle.command_plans.specs.Outcome.{No}
use Rattle.command_plans.specs.Work.{IsOnly}
use Rattle.response_time.specs.Responses.{IsFirstLate}
use Rattle.sweet_cli.specs.Tasks.{ResponsesMean}
use Rattle.sweet_cli.proofs.JudgedTasks.{times_only, late_only}
use Rattle.sweet_cli.proofs.commands.tasks.times_meant.Goals as goal

pub returns-in-Ok : goal.returns-in-Ok
returns-in-Ok c =
    let law = c.a_task_set_has_one_answer.ensures in
    times_only c.args.tasks.now law.times law.late law.apart c.in-Ok.times.items c.in-Ok.ensures.times

pub returns-in-Ok-late_line : goal.returns-in-Ok-late_line
returns-in-Ok-late_line c =
    let law = c.a_task_set_has_one_answer.ensures in
    let first : IsFirstLate c.args.tasks.now c.in-Err-Late.i = rw c.in-Err-Late.field-0-is at c.in-Err-Late.ensures.fault in
    let only = late_only c.args.tasks.now law.times law.late law.apart c.in-Err-Late.i c.task_at.result.now c.task_at.ensures first in
    (refl, subst (λ (text : List ℕ). IsOnly (ResponsesMean c.args.tasks.now) (Err (record { cause = No; text = text }))) (sym c.in-Ok-late_line.ensures) only)
