-- The text is that of the order of work, and it keeps the promise.
use Rattle.std.proofs.Common.{Option, subst}
use Rattle.flow_base.specs.Outside.{Files}
use Rattle.cached_runs.specs.Answers.{lines_of}
use Rattle.command_plans.specs.Log.{log_of}
use Rattle.command_files.specs.Seen.{scoped_of, tables_of}
use Rattle.command_files.specs.Tables.{tables_in}
use Rattle.sweet_cli.specs.Words.{cache_meant}
use Rattle.sweet_cli.proofs.CachePromises.{cache_told, tells_cache}
use Rattle.sweet_cli.proofs.commands.cache.cache.Goals as goal

pub returns-clause-promise : goal.returns-clause-promise
returns-clause-promise g c =
    let given = cache_meant c.args.given in
    let start = g.F.Shelf.state c.args.shelf.now in
    let mid = g.F.Shelf.state c.laid_out_in.new.shelf in
    let end = g.F.Shelf.state c.tables_in.new.shelf in
    let program = scoped_of c.in_ok-program.program in
    let tables = tables_of c.in_ok-tables.tables in
    let lines = lines_of c.in_ok-lines.lines in
    let first = c.in_ok-program.ensures.work in
    let read = subst (λ (told : Option Files). (tables_in program.expanded.program given.inputs given.costs).steps.Gives told (log_of mid) tables (log_of end)) first.same
    c.in_ok-tables.ensures.work.ends.0 in
    tells_cache c.a_file_has_one_answer.ensures.keep given start.files (log_of start) (log_of mid) (log_of end) program tables lines c.in_ok-text.text.items first.ends.0 read c.in_ok-program.ensures.told
    c.in_ok-text.ensures c.in_ok-lines.ensures.means.means c.in_ok-lines.ensures.sound

pub returns-clause-work : goal.returns-clause-work
returns-clause-work g c =
    let given = cache_meant c.args.given in
    let first = c.in_ok-program.ensures.work in
    let second = c.in_ok-tables.ensures.work in
    cache_told given (g.F.Shelf.state c.args.shelf.now) (g.F.Shelf.state c.laid_out_in.new.shelf) (g.F.Shelf.state c.tables_in.new.shelf)
    (scoped_of c.in_ok-program.program) (tables_of c.in_ok-tables.tables) (lines_of c.in_ok-lines.lines) c.in_ok-text.text
    first.ends first.same first.later second.ends second.same second.later c.in_ok-lines.ensures.means c.in_ok-text.ensures
