-- What was read is told.
use Rattle.c_unit.specs.Units.{unit_of}
use Rattle.command_plans.specs.Log.{log_of}
use Rattle.program_files.proofs.Told.{told_checked}
use Rattle.program_files.proofs.units.checked_unit_in.Goals as goal

pub returns-clause-told : goal.returns-clause-told
returns-clause-told g c =
    told_checked c.args.file.now c.args.root.now (g.F.Shelf.state c.args.shelf.now).files (log_of (g.F.Shelf.state c.args.shelf.now)) (unit_of c.in_ok-unit.unit)
    (log_of (g.F.Shelf.state c.unit_in.new.shelf)) c.checked.result c.in_ok-unit.ensures.work.ends.0 c.checked.ensures.means
