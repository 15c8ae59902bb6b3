-- What nodes cost has no part in the scopes, and the bounder is asked of the program with these costs.
use Rattle.std.proofs.Common.{IfOk, sym, subst}
use Rattle.alf_check.specs.CheckedPrograms.{seen}
use Rattle.alf_check.specs.Inputs.{KeepInputs}
use Rattle.flow_graph.specs.Numbering.{IsGraph}
use Rattle.worklist_rules.specs.declared.policy.Policy.{Policy}
use Rattle.program_machines.specs.NodeCosts.{HasCosts}
use Rattle.program_files.specs.declared.expanding.Expanded.{Expanded}
use Rattle.worst_inputs.specs.Searches.{found_of}
use Rattle.worst_inputs.specs.Promises.{Bounds}
use Rattle.program_bounder.specs.declared.bounder.PathBounder.{PathBounder}
use Rattle.program_bounder.specs.InputRows.{ranges_of}
use Rattle.program_bounder.specs.InputCosts.{RunsCost}
use Rattle.command_plans.specs.Works.{Judges}
use Rattle.command_files.specs.Scopes.{ScopedProgram}
use Rattle.command_files.specs.Seen.{IsOutlined, scoped_of}
use Rattle.sweet_cli.specs.SeenBounders.{BoxesMean}
use Rattle.sweet_cli.specs.Analyse.{policy_of}
use Rattle.sweet_cli.specs.Worst.{WorstMeans}
use Rattle.sweet_cli.proofs.commands.worst.found_in.Goals as goal

-- the graph with the costs is that of the program
pub searched-requires-clause-graph : goal.searched-requires-clause-graph
searched-requires-clause-graph c =
    subst (λ (b : PathBounder). IsGraph (seen b.checked) b.graph) (sym c.bounder_of-bounder.ensures)
    (subst (λ (e : Expanded). IsGraph (seen e.checked) e.graph) (sym c.priced-program.ensures.expanded) c.requires.graph)

pub searched-requires-clause-rows : goal.searched-requires-clause-rows
searched-requires-clause-rows c =
    subst (λ (b : PathBounder). KeepInputs (seen b.checked) b.rows.items) (sym c.bounder_of-bounder.ensures)
    (subst (λ (e : Expanded). KeepInputs (seen e.checked) c.args.tables.rows.items) (sym c.priced-program.ensures.expanded) c.requires.rows)

pub searched-requires-clause-outline : goal.searched-requires-clause-outline
searched-requires-clause-outline c = subst (λ (b : PathBounder). IsOutlined b.graph b.outline) (sym c.bounder_of-bounder.ensures) c.priced-program.ensures.outline

pub searched-requires-clause-costs : goal.searched-requires-clause-costs
searched-requires-clause-costs c =
    let e = c.priced-program.result.expanded in
    let graph = subst (λ (e : Expanded). IsGraph (seen e.checked) e.graph) (sym c.priced-program.ensures.expanded) c.requires.graph in
    subst (λ (b : PathBounder). HasCosts (seen b.checked) b.graph b.costs b.outline) (sym c.bounder_of-bounder.ensures)
    (c.priced-program.ensures.priced (seen e.checked) graph)

pub returns-clause-means : goal.returns-clause-means
returns-clause-means c =
    let rows = c.args.tables.rows.items in
    let costs = c.args.tables.costs in
    subst (λ (p : ScopedProgram). Judges (WorstMeans p rows costs (policy_of c.args.merging) c.args.turns c.args.pivots c.args.splits) found_of c.searched.result) c.priced-program.ensures.scopes
    (subst (λ (p : Policy). Judges (WorstMeans (scoped_of c.priced-program.result) rows costs p c.args.turns c.args.pivots c.args.splits) found_of c.searched.result) c.policy.ensures
    (subst (λ (b : PathBounder). Judges (BoxesMean b c.args.splits) found_of c.searched.result) c.bounder_of-bounder.ensures c.searched.ensures.means))

pub returns-clause-bounds : goal.returns-clause-bounds
returns-clause-bounds c =
    let rows = c.args.tables.rows.items in
    let costs = c.args.tables.costs in
    subst (λ (e : Expanded). IfOk c.searched.result (λ found. Bounds (RunsCost (seen e.checked) e.graph rows costs) (ranges_of rows) (found_of found))) c.priced-program.ensures.expanded
    (subst (λ (b : PathBounder). IfOk c.searched.result (λ found. Bounds (RunsCost (seen b.checked) b.graph b.rows.items b.costs) (ranges_of b.rows.items) (found_of found))) c.bounder_of-bounder.ensures c.searched.ensures.bounds)
