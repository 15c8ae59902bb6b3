-- The text is that of the order of work, and it keeps the promise.
use Rattle.std.proofs.Common.{Option, subst}
use Rattle.flow_base.specs.Outside.{Files}
use Rattle.worst_inputs.specs.Searches.{found_of}
use Rattle.command_plans.specs.Log.{log_of}
use Rattle.command_files.specs.Seen.{scoped_of, tables_of}
use Rattle.command_files.specs.Tables.{tables_in}
use Rattle.sweet_cli.specs.Words.{worst_meant}
use Rattle.sweet_cli.proofs.WorstPromises.{boxes_told, tells_worst}
use Rattle.sweet_cli.proofs.commands.worst.worst.Goals as goal

pub returns-clause-promise : goal.returns-clause-promise
returns-clause-promise g c =
    let given = worst_meant c.args.given in
    let start = g.F.Shelf.state c.args.shelf.now in
    let mid = g.F.Shelf.state c.scoped_in.new.shelf in
    let end = g.F.Shelf.state c.tables_in.new.shelf in
    let program = scoped_of c.in_ok-program.program in
    let tables = tables_of c.in_ok-tables.tables in
    let found = found_of c.in_ok-found.found in
    let first = c.in_ok-program.ensures.work in
    let read = subst (λ (told : Option Files). (tables_in program.expanded.program given.inputs given.costs).steps.Gives told (log_of mid) tables (log_of end)) first.same
    c.in_ok-tables.ensures.work.ends.0 in
    tells_worst c.a_file_has_one_answer.ensures.keep given start.files (log_of start) (log_of mid) (log_of end) program tables found c.in_ok-text.text.items first.ends.0 read c.in_ok-program.ensures.told
    c.in_ok-text.ensures c.in_ok-found.ensures.means.means c.in_ok-found.ensures.bounds

pub returns-clause-work : goal.returns-clause-work
returns-clause-work g c =
    let given = worst_meant c.args.given in
    let first = c.in_ok-program.ensures.work in
    let second = c.in_ok-tables.ensures.work in
    boxes_told given (g.F.Shelf.state c.args.shelf.now) (g.F.Shelf.state c.scoped_in.new.shelf) (g.F.Shelf.state c.tables_in.new.shelf)
    (scoped_of c.in_ok-program.program) (tables_of c.in_ok-tables.tables) (found_of c.in_ok-found.found) c.in_ok-text.text
    first.ends first.same first.later second.ends second.same second.later c.in_ok-found.ensures.means c.in_ok-text.ensures
