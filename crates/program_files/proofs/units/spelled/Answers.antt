-- The unit that was read, or the line of its first departure, is the only meaning.
use Rattle.std.proofs.Common.{refl}
use Rattle.c_unit.specs.Units.{unit_of}
use Rattle.c_text.specs.Language.{departure_of}
use Rattle.program_files.proofs.JudgedUnit.{unit_only, unit_departed_only}
use Rattle.program_files.proofs.units.spelled.Goals as goal

pub returns-in-Ok-clause-means : goal.returns-in-Ok-clause-means
returns-in-Ok-clause-means c = unit_only c.args.bytes.now (c.one_meaning.ensures c.args.bytes.now) (unit_of c.in-Ok.unit) c.in-Ok.ensures.spelled

pub returns-in-Ok-unit_line-clause-means : goal.returns-in-Ok-unit_line-clause-means
returns-in-Ok-unit_line-clause-means c = (
  refl,
  unit_departed_only c.args.bytes.now (c.one_meaning.ensures c.args.bytes.now) (departure_of c.in-Err.fault) c.in-Ok-unit_line.line.items
      c.in-Ok-unit_line.ensures c.in-Err.ensures.departs,
)
