-- What was read is told.
use Rattle.alf_program.specs.Tree.{program_of}
use Rattle.command_plans.specs.Log.{log_of}
use Rattle.program_files.proofs.Told.{told_numbered}
use Rattle.program_files.proofs.programs.numbered_in.Goals as goal

pub returns-clause-told : goal.returns-clause-told
returns-clause-told g c =
    told_numbered c.args.file.now c.args.root.now (g.F.Shelf.state c.args.shelf.now).files (log_of (g.F.Shelf.state c.args.shelf.now)) (program_of c.in_ok-program.program)
    (log_of (g.F.Shelf.state c.program_in.new.shelf)) c.checked.result c.in_ok-program.ensures.work.ends.0 c.checked.ensures
