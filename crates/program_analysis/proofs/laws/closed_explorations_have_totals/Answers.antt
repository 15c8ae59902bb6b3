use Rattle.program_analysis.proofs.BoundedLaws.{totals_in}
use Rattle.program_analysis.proofs.laws.closed_explorations_have_totals.Goals as goal

pub returns : goal.returns
returns c = λ parts o policy turns report keeps is inputs outline is_of closed.
    totals_in parts o policy turns (c.parts_fit.ensures parts o keeps is inputs outline is_of) report closed
