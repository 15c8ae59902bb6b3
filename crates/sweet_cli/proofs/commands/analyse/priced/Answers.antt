-- The outline is that of the graph as before.
use Rattle.std.proofs.Common.{sym, ◌∙◌, subst}
use Rattle.domain_core.specs.OutlineOf.{IsOutlineOf}
use Rattle.scope_graph.specs.Placing.{plan_of}
use Rattle.program_analysis.specs.PricingLaws.{priced_shape}
use Rattle.sweet_cli.proofs.JudgedReports.{named_again}
use Rattle.sweet_cli.proofs.commands.analyse.priced.Goals as goal

pub returns-clause-outline : goal.returns-clause-outline
returns-clause-outline c =
    let old = c.args.program.outline in
    let new = c.set_costs.new.outline in
    let kept = c.set_costs.ensures.kept in
    record {
      outline_is = subst (IsOutlineOf (plan_of c.args.program.expanded.graph)) (sym (priced_shape old new kept)) c.requires.outline.outline_is;
      named = named_again old new kept ∙ c.requires.outline.named;
    }
