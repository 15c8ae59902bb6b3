-- What is told of the cache, or that places are left, is the only meaning.
use Rattle.std.proofs.Common.{List, Ok, Err, refl, subst}
use Rattle.alf_check.specs.CheckedPrograms.{seen}
use Rattle.alf_check.specs.declared.rows.InputRow.{InputRow}
use Rattle.cached_runs.specs.Answers.{lines_of}
use Rattle.cache_analysis.specs.Sound.{IsSoundCache}
use Rattle.command_plans.specs.Outcome.{Outcome, Unbounded}
use Rattle.command_plans.specs.Work.{IsOnly}
use Rattle.command_files.specs.Seen.{scoped_of}
use Rattle.sweet_cli.specs.Cache.{CacheMeans}
use Rattle.sweet_cli.proofs.JudgedCaches.{lines_only, left_only}
use Rattle.sweet_cli.proofs.commands.cache.explored.Goals as goal

pub returns-in-Told-clause-means : goal.returns-in-Told-clause-means
returns-in-Told-clause-means c =
    let program = scoped_of c.args.program.now in
    let costs = c.args.tables.now.costs in
    let lines = lines_of c.in-Told.lines in
    let found = rw c.in-Told.is at c.in_ok-lines.ensures.found costs c.requires.costs in
    subst (λ (rows : List InputRow). IsOnly (CacheMeans program rows costs c.args.shape c.args.policy c.args.turns) (Ok lines)) c.as_slice-rows.ensures.value
    (lines_only c.a_program_has_one_cache_analysis.ensures program c.as_slice-rows.result.now costs c.args.shape c.args.policy c.args.turns lines found)

pub returns-in-Told-clause-sound : goal.returns-in-Told-clause-sound
returns-in-Told-clause-sound c =
    let checked = c.args.program.now.expanded.checked in
    let graph = c.args.program.now.expanded.graph in
    let costs = c.args.tables.now.costs in
    let lines = lines_of c.in-Told.lines in
    let sound = (rw c.in-Told.is at c.in_ok-lines.ensures.sound) costs c.requires.costs in
    subst (λ (rows : List InputRow). IsSoundCache (seen checked) graph rows c.args.shape costs lines) c.as_slice-rows.ensures.value sound

pub returns-in_ok-line-in-Unbounded-clause-means : goal.returns-in_ok-line-in-Unbounded-clause-means
returns-in_ok-line-in-Unbounded-clause-means c =
    let program = scoped_of c.args.program.now in
    let costs = c.args.tables.now.costs in
    let scope = c.in-Unbounded.scope in
    let text = c.in_ok-line-in-Unbounded.line.items in
    let outcome : Outcome = record { cause = Unbounded; text = text } in
    let found = rw c.in-Unbounded.is at c.in_ok-lines.ensures.found costs c.requires.costs in (
      refl,
      subst (λ (rows : List InputRow). IsOnly (CacheMeans program rows costs c.args.shape c.args.policy c.args.turns) (Err outcome)) c.as_slice-rows.ensures.value
          (left_only c.a_program_has_one_cache_analysis.ensures program c.as_slice-rows.result.now costs c.args.shape c.args.policy c.args.turns scope text found c.in_ok-line-in-Unbounded.ensures),
    )
