-- What nodes cost has no part in the scopes.
use Rattle.std.proofs.Common.{subst}
use Rattle.flow_facts.specs.Reports.{reported}
use Rattle.command_plans.specs.Works.{Judges}
use Rattle.command_files.specs.Scopes.{ScopedProgram}
use Rattle.sweet_cli.specs.Check.{AcceptMeans}
use Rattle.sweet_cli.proofs.commands.check.judged.Goals as goal

pub returns-clause-means : goal.returns-clause-means
returns-clause-means c =
    subst (λ (p : ScopedProgram). Judges (AcceptMeans p c.args.tables.now.rows.items c.args.tables.now.costs (reported c.args.report.now)) (λ text. text.items) c.answered.result) c.priced-program.ensures.scopes
    c.answered.ensures.means
