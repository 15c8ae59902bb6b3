-- The unit that passes, or the line of what the checks refuse it by, is the only meaning.
use Rattle.c_unit.specs.Units.{unit_of}
use Rattle.command_plans.specs.Outcome.{cause_of}
use Rattle.program_files.proofs.JudgedUnit.{checked_only, fault_only}
use Rattle.program_files.proofs.units.checked.Goals as goal

pub returns-in-Ok-clause-means : goal.returns-in-Ok-clause-means
returns-in-Ok-clause-means c = rw c.in-Ok.ensures.unchanged.0
    (checked_only (unit_of c.args.unit) c.args.root.now c.ranked_calls_have_no_cycle.ensures c.in-Ok.ensures.passes)

pub returns-in-Ok-refusal_line-clause-means : goal.returns-in-Ok-refusal_line-clause-means
returns-in-Ok-refusal_line-clause-means c =
    fault_only (unit_of c.args.unit) c.args.root.now c.ranked_calls_have_no_cycle.ensures c.in-Err.fault (cause_of c.refusal_why.result) c.in-Ok-refusal_line.line.items
    c.in-Err.ensures.told c.in-Ok-refusal_line.ensures c.refusal_why.ensures
