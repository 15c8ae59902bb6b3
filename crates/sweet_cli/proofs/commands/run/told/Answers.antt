-- The text of the run, or that it has more nodes than the turns, is the only meaning.
use Rattle.std.proofs.Common.{List, ℕ, All, Ok, Err, map, refl, sym, ◌∙◌, subst}
use Rattle.std.proofs.lemmas.List.Elements.{All-contains}
use Rattle.alf_check.specs.declared.rows.InputRow.{InputRow}
use Rattle.alf_check.specs.CheckedPrograms.{seen}
use Rattle.alf_check.specs.Inputs.{KeepsInput}
use Rattle.alf_runs.specs.Places.{AreWords}
use Rattle.command_plans.specs.Work.{IsOnly}
use Rattle.command_plans.specs.Outcome.{Outcome, Unbounded}
use Rattle.command_files.specs.Seen.{scoped_of}
use Rattle.sweet_cli.specs.Run.{RunMeans, low_start}
use Rattle.sweet_cli.specs.Counting.{CountedAs}
use Rattle.sweet_cli.proofs.Lows.{lows_within}
use Rattle.sweet_cli.proofs.Numbers.{differ}
use Rattle.sweet_cli.proofs.JudgedRuns.{left_of, text_only, past_only, texted}
use Rattle.sweet_cli.proofs.commands.run.told.Goals as goal

pub counted-requires-clause-words : goal.counted-requires-clause-words
counted-requires-clause-words c =
    let program = seen c.args.program.now.expanded.checked in
    let rows = c.as_slice-rows.result.now in
    let keep = subst (λ (l : List InputRow). All (KeepsInput program) l) (sym c.as_slice-rows.ensures.value) c.requires.rows.each in
    let within = lows_within program rows (λ row among. All-contains (KeepsInput program) rows row keep among) in
    let words = c.active_frames_follow_the_call_path.ensures.inputs rows (map (λ (row : InputRow). row.low) rows) within in
    subst (λ (l : List ℕ). AreWords rows l) (sym (c.deref.ensures.value ∙ c.in_ok-words.ensures)) words

pub returns-in-Over : goal.returns-in-Over
returns-in-Over c =
    let program = scoped_of c.args.program.now in
    let expanded = program.expanded in
    let rows = c.as_slice-rows.result.now in
    let costs = c.args.tables.now.costs in
    let text = c.in_ok-text-in-Over.text.items in
    let apart = differ (seen c.args.program.now.expanded.checked) c.args.program.now.expanded.graph (c.graphs_are_expansions.ensures _ _ c.keeps.ensures c.requires.graph) in
    let counts = subst (λ (l : List ℕ). CountedAs expanded rows l costs c.args.turns c.in_ok-tally.field-0) (c.deref.ensures.value ∙ c.in_ok-words.ensures) c.in_ok-tally.ensures in
    let only = text_only c.a_run_has_one_end.ensures.one c.a_run_has_one_end.ensures.length program apart costs c.args.turns rows text
    (texted expanded rows costs c.args.turns c.in-Over.tally text (rw c.in-Over.is at counts) c.in_ok-text-in-Over.ensures) in
    subst (λ (l : List InputRow). IsOnly (RunMeans program l costs c.args.turns) (Ok text)) c.as_slice-rows.ensures.value only

pub returns : goal.returns
returns c =
    let program = scoped_of c.args.program.now in
    let expanded = program.expanded in
    let rows = c.as_slice-rows.result.now in
    let costs = c.args.tables.now.costs in
    let apart = differ (seen c.args.program.now.expanded.checked) c.args.program.now.expanded.graph (c.graphs_are_expansions.ensures _ _ c.keeps.ensures c.requires.graph) in
    let counts = subst (λ (l : List ℕ). CountedAs expanded rows l costs c.args.turns c.in_ok-tally.field-0) (c.deref.ensures.value ∙ c.in_ok-words.ensures) c.in_ok-tally.ensures in
    let outcome : Outcome = record { cause = Unbounded; text = c.in_ok-line-in-Left.line.items } in
    let only = past_only c.a_run_has_one_end.ensures.one c.a_run_has_one_end.ensures.length program apart costs c.args.turns rows outcome
    (left_of program (low_start expanded.program rows) c.args.turns c.in-Left.n c.in_ok-line-in-Left.line.items (rw c.in-Left.is at counts) c.in_ok-line-in-Left.ensures) in
    (refl, subst (λ (l : List InputRow). IsOnly (RunMeans program l costs c.args.turns) (Err outcome)) c.as_slice-rows.ensures.value only)
