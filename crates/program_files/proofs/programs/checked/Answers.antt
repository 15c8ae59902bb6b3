-- The program that passes, or the line of its fault, is the only meaning.
use Rattle.alf_program.specs.Tree.{program_of}
use Rattle.alf_check.specs.CheckedPrograms.{seen}
use Rattle.command_plans.specs.Outcome.{cause_of}
use Rattle.program_files.proofs.Judged.{passes_only, told_only, check_read}
use Rattle.program_files.proofs.programs.checked.Goals as goal

pub returns-in-Ok : goal.returns-in-Ok
returns-in-Ok c =
    passes_only (program_of c.args.program) c.args.root.now (seen c.in-Ok.checked) c.in-Ok.ensures.passes c.in-Ok.ensures.numbered

pub returns-in-Ok-check_line : goal.returns-in-Ok-check_line
returns-in-Ok-check_line c = (
  check_read c.in-Err.fault (cause_of c.check_why.result) c.check_why.ensures,
  told_only (program_of c.args.program) c.args.root.now c.in-Err.fault (cause_of c.check_why.result) c.in-Ok-check_line.line.items c.in-Err.ensures.told
      c.in-Ok-check_line.ensures c.check_why.ensures,
)
