-- Notes and what nodes cost have no part in the scopes, and the analysis is made of the program with both.
use Rattle.std.proofs.Common.{◌≤◌, IfOk, refl, sym, ap, subst}
use Rattle.alf_check.specs.CheckedPrograms.{seen}
use Rattle.alf_check.specs.Inputs.{KeepInputs}
use Rattle.flow_graph.specs.Numbering.{IsGraph}
use Rattle.worklist_rules.specs.declared.policy.Policy.{Policy}
use Rattle.program_machines.specs.NodeCosts.{HasCosts}
use Rattle.program_files.specs.declared.expanding.Expanded.{Expanded}
use Rattle.code_layout.specs.Layouts.{all_statements, most_statements}
use Rattle.cached_runs.specs.Answers.{lines_of}
use Rattle.cache_analysis.specs.CodeAccesses.{HasCodeNotes}
use Rattle.cache_analysis.specs.Sound.{IsSoundCache}
use Rattle.command_plans.specs.Works.{Judges}
use Rattle.command_files.specs.declared.scopes.ScopedProgram.{ScopedProgram as ScopedValue}
use Rattle.command_files.specs.Scopes.{ScopedProgram}
use Rattle.command_files.specs.Seen.{IsOutlined, scoped_of}
use Rattle.sweet_cli.specs.Analyse.{policy_of}
use Rattle.sweet_cli.specs.Cache.{CacheMeans}
use Rattle.sweet_cli.proofs.commands.cache.cached_in.Goals as goal

pub noted-requires-clause-few : goal.noted-requires-clause-few
noted-requires-clause-few c = subst (λ (e : Expanded). all_statements (seen e.checked) ≤ most_statements) (sym c.priced-program.ensures.expanded) c.requires.few

pub noted-requires-clause-graph : goal.noted-requires-clause-graph
noted-requires-clause-graph c = subst (λ (e : Expanded). IsGraph (seen e.checked) e.graph) (sym c.priced-program.ensures.expanded) c.requires.graph

pub explored-requires-clause-few : goal.explored-requires-clause-few
explored-requires-clause-few c =
    subst (λ (p : ScopedValue). all_statements (seen p.expanded.checked) ≤ most_statements) (sym c.in_ok-noted.ensures)
    (subst (λ (e : Expanded). all_statements (seen e.checked) ≤ most_statements) (sym c.priced-program.ensures.expanded) c.requires.few)

pub explored-requires-clause-graph : goal.explored-requires-clause-graph
explored-requires-clause-graph c =
    subst (λ (p : ScopedValue). IsGraph (seen p.expanded.checked) p.expanded.graph) (sym c.in_ok-noted.ensures)
    (subst (λ (e : Expanded). IsGraph (seen e.checked) e.graph) (sym c.priced-program.ensures.expanded) c.requires.graph)

pub explored-requires-clause-rows : goal.explored-requires-clause-rows
explored-requires-clause-rows c =
    subst (λ (p : ScopedValue). KeepInputs (seen p.expanded.checked) c.args.tables.now.rows.items) (sym c.in_ok-noted.ensures)
    (subst (λ (e : Expanded). KeepInputs (seen e.checked) c.args.tables.now.rows.items) (sym c.priced-program.ensures.expanded) c.requires.rows)

pub explored-requires-clause-outline : goal.explored-requires-clause-outline
explored-requires-clause-outline c =
    let outlined = c.priced-program.ensures.outline in
    subst (λ (p : ScopedValue). IsOutlined p.expanded.graph p.outline) (sym c.in_ok-noted.ensures) (record { outline_is = outlined.outline_is; named = outlined.named })

pub explored-requires-clause-costs : goal.explored-requires-clause-costs
explored-requires-clause-costs c =
    let e = c.priced-program.result.expanded in
    let graph = subst (λ (e : Expanded). IsGraph (seen e.checked) e.graph) (sym c.priced-program.ensures.expanded) c.requires.graph in
    subst (λ (p : ScopedValue). HasCosts (seen p.expanded.checked) p.expanded.graph c.args.tables.now.costs p.outline) (sym c.in_ok-noted.ensures)
    (c.priced-program.ensures.priced (seen e.checked) graph)

pub explored-requires-clause-noted : goal.explored-requires-clause-noted
explored-requires-clause-noted c =
    subst (λ (p : ScopedValue). HasCodeNotes (seen p.expanded.checked) p.expanded.graph c.args.shape p.outline) (sym c.in_ok-noted.ensures) refl

pub returns-clause-means : goal.returns-clause-means
returns-clause-means c =
    let rows = c.args.tables.now.rows.items in
    let costs = c.args.tables.now.costs in
    let scoped = ap scoped_of c.in_ok-noted.ensures in
    subst (λ (p : ScopedProgram). Judges (CacheMeans p rows costs c.args.shape (policy_of c.args.merging) c.args.turns) lines_of c.explored.result) c.priced-program.ensures.scopes
    (subst (λ (p : Policy). Judges (CacheMeans (scoped_of c.priced-program.result) rows costs c.args.shape p c.args.turns) lines_of c.explored.result) c.policy.ensures
    (subst (λ (p : ScopedProgram). Judges (CacheMeans p rows costs c.args.shape c.policy.result c.args.turns) lines_of c.explored.result) scoped c.explored.ensures.means))

pub returns-clause-sound : goal.returns-clause-sound
returns-clause-sound c =
    let rows = c.args.tables.now.rows.items in
    let costs = c.args.tables.now.costs in
    subst (λ (e : Expanded). IfOk c.explored.result (λ lines. IsSoundCache (seen e.checked) e.graph rows c.args.shape costs (lines_of lines))) c.priced-program.ensures.expanded
    (subst (λ (p : ScopedValue). IfOk c.explored.result (λ lines. IsSoundCache (seen p.expanded.checked) p.expanded.graph rows c.args.shape costs (lines_of lines))) c.in_ok-noted.ensures c.explored.ensures.sound)
