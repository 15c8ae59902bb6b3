-- What nodes cost has no part in the scopes.
use Rattle.std.proofs.Common.{subst}
use Rattle.flow_facts.specs.Reports.{reported}
use Rattle.command_plans.specs.Works.{Judges}
use Rattle.command_files.specs.Scopes.{ScopedProgram}
use Rattle.sweet_cli.specs.Replay.{ReplayMeans}
use Rattle.sweet_cli.proofs.commands.replay.told.Goals as goal

pub returns : goal.returns
returns c =
    subst (λ (p : ScopedProgram). Judges (ReplayMeans p c.args.tables.now.rows.items c.args.tables.now.costs (reported c.args.report.now) c.args.values.now) (λ text. text.items) c.held.result)
    c.priced-program.ensures.scopes c.held.ensures
