-- A text that a unit was lowered to does what the unit does.
use Rattle.alf_program.specs.Tree.{program_of}
use Rattle.c_unit.specs.Units.{unit_of}
use Rattle.command_plans.specs.Log.{log_of}
use Rattle.sweet_cli.specs.Words.{lower_meant}
use Rattle.sweet_cli.proofs.Promises.{lowers_text}
use Rattle.sweet_cli.proofs.commands.lower.lower.Goals as goal

pub returns-clause-promise : goal.returns-clause-promise
returns-clause-promise g c =
    let program = c.in_ok-program.program in
    let whole = program_of c.in_ok-lowered.lowered in
    lowers_text (lower_meant c.args.given) (g.F.Shelf.state c.args.shelf.now).files (log_of (g.F.Shelf.state c.args.shelf.now)) (log_of (g.F.Shelf.state c.checked_unit_in.new.shelf)) (unit_of program.unit) program.root whole c.in_ok-text.text.items c.in_ok-program.ensures.told c.in_ok-program.ensures.root
    c.in_ok-lowered.ensures.lowered (c.writable_programs_are_spelled.ensures.canonical whole c.in_ok-lowered.ensures.writable) c.in_ok-text.ensures.text c.in_ok-lowered.ensures.passes c.in_ok-lowered.ensures.outcomes
