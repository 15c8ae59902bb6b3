use Rattle.program_analysis.proofs.BoundedLaws.{right_in}
use Rattle.program_analysis.proofs.laws.found_reports_are_right.Goals as goal

pub returns : goal.returns
returns c = λ parts o policy turns pivots report keeps is inputs outline is_of found.
    right_in parts o policy turns (c.parts_fit.ensures parts o keeps is inputs outline is_of) found.given found.closed c.told_bounds_are_right.ensures pivots report found.bounded
