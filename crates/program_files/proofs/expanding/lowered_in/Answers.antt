-- Told files say what the unit is lowered to.
use Rattle.c_unit.specs.Units.{unit_of}
use Rattle.command_plans.specs.Log.{log_of}
use Rattle.program_files.proofs.Told.{told_lowered}
use Rattle.program_files.proofs.expanding.lowered_in.Goals as goal

pub returns-clause-told : goal.returns-clause-told
returns-clause-told g c =
    let program = c.in_ok-program.program in
    told_lowered c.args.file.now c.args.root.now program.root (g.F.Shelf.state c.args.shelf.now).files (log_of (g.F.Shelf.state c.args.shelf.now)) (log_of (g.F.Shelf.state c.checked_unit_in.new.shelf)) (unit_of program.unit) c.in_ok-checked.checked
    c.in_ok-program.ensures.told c.in_ok-program.ensures.root c.in_ok-checked.ensures.numbered c.in_ok-checked.ensures.outcomes
