-- The program that was read, or the line of its first departure, is the only meaning.
use Rattle.std.proofs.Common.{refl}
use Rattle.alf_program.specs.Tree.{program_of}
use Rattle.alf_text.specs.Language.{departure_of}
use Rattle.program_files.proofs.Judged.{spelled_only, departed_only}
use Rattle.program_files.proofs.programs.spelled.Goals as goal

pub returns-in-Ok-clause-means : goal.returns-in-Ok-clause-means
returns-in-Ok-clause-means c = spelled_only c.args.bytes.now (c.one_meaning.ensures c.args.bytes.now) (program_of c.in-Ok.program) c.in-Ok.ensures.spelled

pub returns-in-Ok-fault_line-clause-means : goal.returns-in-Ok-fault_line-clause-means
returns-in-Ok-fault_line-clause-means c = (
  refl,
  departed_only c.args.bytes.now (c.one_meaning.ensures c.args.bytes.now) (departure_of c.in-Err.fault) c.in-Ok-fault_line.line.items
      c.in-Ok-fault_line.ensures c.in-Err.ensures.departs,
)
