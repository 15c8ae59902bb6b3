-- The run's cost, or the line of what speaks against the report, is the only answer.
use Rattle.std.proofs.Common.{Ok, Err, refl, subst}
use Rattle.alf_check.specs.CheckedPrograms.{seen}
use Rattle.flow_facts.specs.Reports.{reported}
use Rattle.flow_graph.specs.Graphs.{HasProgram}
use Rattle.run_replays.specs.Replays.{Told, IsReplayed}
use Rattle.command_files.specs.Seen.{scoped_of}
use Rattle.sweet_cli.proofs.JudgedReplays.{held_only, objected_only}
use Rattle.sweet_cli.proofs.Numbers.{differ}
use Rattle.sweet_cli.proofs.ToldReplays.{replay_of}
use Rattle.sweet_cli.proofs.commands.replay.held.Goals as goal

pub returns-in_ok-text-in-Ok : goal.returns-in_ok-text-in-Ok
returns-in_ok-text-in-Ok c =
    let program = c.args.program.now in
    let checked = program.expanded.checked in
    let graph = program.expanded.graph in
    let rows = c.args.tables.now.rows.items in
    let costs = c.args.tables.now.costs in
    let report = reported c.args.report.now in
    let values = c.args.values.now in
    let cost = c.in-Ok.cost in
    let apart = differ (seen checked) graph (c.graphs_are_expansions.ensures _ _ c.keeps.ensures c.requires.graph) in
    let has : HasProgram graph = record { program = seen checked; keeps = c.keeps.ensures; is = c.requires.graph } in
    let priced = c.requires.priced (seen checked) c.requires.graph in
    let told = subst (λ (t : Told). IsReplayed (seen checked) graph.nodes rows program.outline report values t) c.in-Ok.is c.in_ok-told.ensures in
    let found = replay_of checked graph rows costs program.outline report values (Ok cost) c.requires.outline priced told in
    held_only c.a_program_has_one_analysis.ensures.alike c.a_replay_tells_one_thing.ensures (scoped_of program) rows costs report values has apart cost c.in_ok-text-in-Ok.text.items found
    c.in_ok-text-in-Ok.ensures

pub returns-in_ok-line-in-Err : goal.returns-in_ok-line-in-Err
returns-in_ok-line-in-Err c =
    let program = c.args.program.now in
    let checked = program.expanded.checked in
    let graph = program.expanded.graph in
    let rows = c.args.tables.now.rows.items in
    let costs = c.args.tables.now.costs in
    let report = reported c.args.report.now in
    let values = c.args.values.now in
    let objection = c.in-Err.objection in
    let apart = differ (seen checked) graph (c.graphs_are_expansions.ensures _ _ c.keeps.ensures c.requires.graph) in
    let has : HasProgram graph = record { program = seen checked; keeps = c.keeps.ensures; is = c.requires.graph } in
    let priced = c.requires.priced (seen checked) c.requires.graph in
    let told = subst (λ (t : Told). IsReplayed (seen checked) graph.nodes rows program.outline report values t) c.in-Err.is c.in_ok-told.ensures in
    let found = replay_of checked graph rows costs program.outline report values (Err objection) c.requires.outline priced told in (
      refl,
      objected_only c.a_program_has_one_analysis.ensures.alike c.a_replay_tells_one_thing.ensures (scoped_of program) rows costs report values has apart objection
          c.in_ok-line-in-Err.line.items found c.in_ok-line-in-Err.ensures,
    )
