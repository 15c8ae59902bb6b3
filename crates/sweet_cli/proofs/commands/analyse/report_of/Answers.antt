-- What nodes cost has no part in the scopes.
use Rattle.std.proofs.Common.{subst}
use Rattle.flow_facts.specs.Reports.{reported}
use Rattle.worklist_rules.specs.declared.policy.Policy.{Policy}
use Rattle.command_plans.specs.Works.{Judges}
use Rattle.command_files.specs.Scopes.{ScopedProgram}
use Rattle.command_files.specs.Seen.{scoped_of}
use Rattle.sweet_cli.specs.Analyse.{ReportMeans}
use Rattle.sweet_cli.proofs.commands.analyse.report_of.Goals as goal

pub returns-clause-means : goal.returns-clause-means
returns-clause-means c =
    let rows = c.args.tables.now.rows.items in
    let costs = c.args.tables.now.costs in
    subst (λ (p : Policy). Judges (ReportMeans c.args.certify (scoped_of c.args.program) rows costs p c.args.turns c.args.pivots) (λ report. reported report) c.explored.result) c.policy.ensures
    (subst (λ (p : ScopedProgram). Judges (ReportMeans c.args.certify p rows costs c.policy.result c.args.turns c.args.pivots) (λ report. reported report) c.explored.result) c.priced-program.ensures.scopes
    c.explored.ensures.means)
