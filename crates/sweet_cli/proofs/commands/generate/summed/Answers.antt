-- The text is that of the order of work, and it keeps the promise.
use Rattle.std.proofs.Common.{[], ◌∷◌, Option, None, true, subst}
use Rattle.flow_base.specs.Outside.{Files}
use Rattle.flow_facts.specs.Reports.{reported}
use Rattle.command_plans.specs.Log.{log_of}
use Rattle.command_plans.specs.Readings.{over_told}
use Rattle.program_files.specs.Told.{IsToldProgram}
use Rattle.command_files.specs.Seen.{scoped_of, tables_of}
use Rattle.command_files.specs.Tables.{tables_in}
use Rattle.sweet_words.specs.Files.{file_name}
use Rattle.sweet_cli.specs.Analyse.{policy_of}
use Rattle.sweet_cli.specs.MadeFile.{made_words}
use Rattle.sweet_cli.proofs.GeneratePromises.{summary_told, tells_summary}
use Rattle.sweet_cli.proofs.SoundReports.{printed_sound}
use Rattle.sweet_cli.proofs.commands.generate.summed.Goals as goal

pub returns-clause-promise : goal.returns-clause-promise
returns-clause-promise g c =
    let start = g.F.Shelf.state c.args.shelf.now in
    let mid = g.F.Shelf.state c.scoped_in.new.shelf in
    let end = g.F.Shelf.state c.tables_in.new.shelf in
    let program = scoped_of c.in_ok-program.program in
    let tables = tables_of c.in_ok-tables.tables in
    let report = reported c.in_ok-report.report in
    let first = c.in_ok-program.ensures.work in
    let found = c.in_ok-report.ensures.means.means in
    let read = subst (λ (told : Option Files). (tables_in program.expanded.program None None).steps.Gives told (log_of mid) tables (log_of end)) first.same
    c.in_ok-tables.ensures.work.ends.0 in
    let of = over_told start.files (log_of start) (log_of mid) (file_name made_words.program ∷ []) (λ files. IsToldProgram made_words.program made_words.root files program.expanded.program) c.in_ok-program.ensures.told in
    let sound = printed_sound c.found_reports_are_right.ensures true program.expanded.program program.expanded.graph tables.rows tables.costs (policy_of made_words.merging) made_words.turns made_words.pivots report found in
    tells_summary start.files (log_of start) (log_of mid) (log_of end) program tables report c.in_ok-text.text.items first.ends.0 read of c.in_ok-text.ensures found sound

pub returns-clause-work : goal.returns-clause-work
returns-clause-work g c =
    let first = c.in_ok-program.ensures.work in
    let second = c.in_ok-tables.ensures.work in
    summary_told (g.F.Shelf.state c.args.shelf.now) (g.F.Shelf.state c.scoped_in.new.shelf) (g.F.Shelf.state c.tables_in.new.shelf)
    (scoped_of c.in_ok-program.program) (tables_of c.in_ok-tables.tables) (reported c.in_ok-report.report) c.in_ok-text.text
    first.ends first.same first.later second.ends second.same second.later c.in_ok-report.ensures.means c.in_ok-text.ensures
