-- The text is that of the order of work, and it keeps the promise.
use Rattle.std.proofs.Common.{[], ◌∷◌, Option, ◌∙◌, subst}
use Rattle.flow_base.specs.Outside.{Files}
use Rattle.command_plans.specs.Log.{log_of}
use Rattle.command_plans.specs.Readings.{IsMadeOf}
use Rattle.command_files.specs.Seen.{scoped_of, tables_of}
use Rattle.command_files.specs.Tables.{tables_in}
use Rattle.sweet_cli.specs.Words.{check_meant}
use Rattle.sweet_cli.specs.Check.{IsSoundTold}
use Rattle.sweet_cli.proofs.CheckPromises.{accepted_shown, checks_told, tells_sound}
use Rattle.sweet_cli.proofs.commands.check.check.Goals as goal

pub returns-clause-promise : goal.returns-clause-promise
returns-clause-promise g c =
    let given = check_meant c.args.given in
    let start = g.F.Shelf.state c.args.shelf.now in
    let mid = g.F.Shelf.state c.scoped_in.new.shelf in
    let late = g.F.Shelf.state c.tables_in.new.shelf in
    let end = g.F.Shelf.state c.report_judged.new.shelf in
    let program = scoped_of c.in_ok-program.program in
    let tables = tables_of c.in_ok-tables.tables in
    let first = c.in_ok-program.ensures.work in
    let second = c.in_ok-tables.ensures.work in
    let third = c.in_ok-text.ensures.work in
    let read = subst (λ (told : Option Files). (tables_in program.expanded.program given.inputs given.costs).steps.Gives told (log_of mid) tables (log_of late)) first.same second.ends.0 in
    let sound = subst (λ (told : Option Files). IsMadeOf told (log_of late) (log_of end) (given.report ∷ []) (λ files. IsSoundTold given.report files program.expanded.program program.expanded.graph tables.rows tables.costs)) (second.same ∙ first.same)
    c.in_ok-text.ensures.sound in
    tells_sound c.a_file_has_one_answer.ensures.keep given start.files (log_of start) (log_of mid) (log_of late) (log_of end) program tables c.in_ok-text.text.items first.ends.0 read c.in_ok-program.ensures.told
    (accepted_shown given.report program tables late.files (log_of late) c.in_ok-text.text.items (log_of end) third.ends.0) sound

pub returns-clause-work : goal.returns-clause-work
returns-clause-work g c =
    let first = c.in_ok-program.ensures.work in
    let second = c.in_ok-tables.ensures.work in
    let third = c.in_ok-text.ensures.work in
    checks_told (check_meant c.args.given) (g.F.Shelf.state c.args.shelf.now) (g.F.Shelf.state c.scoped_in.new.shelf) (g.F.Shelf.state c.tables_in.new.shelf) (g.F.Shelf.state c.report_judged.new.shelf)
    (scoped_of c.in_ok-program.program) (tables_of c.in_ok-tables.tables) c.in_ok-text.text first.ends first.same first.later second.ends second.same second.later third.ends third.same third.later
