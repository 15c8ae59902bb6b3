-- Laws of lone analyses.
--   lone_exact            why
use Rattle.abstract_step.specs.Steppers.{StepperParts}
use Rattle.program_analysis.specs.Fitting.{PartsFit}
use Rattle.program_analysis.specs.ExactLaws.{LoneInputIsToldExactly}
use Rattle.program_analysis.specs.LoneAnalyses.{LoneAnalysisIsExact}

pub lone_exact : PartsFit → LoneInputIsToldExactly → LoneAnalysisIsExact
lone_exact fit law program graph rows costs policy turns answer lone h =
    let parts : StepperParts = record { checked = h.checked; graph = graph; rows = rows } in
    law parts h.outline policy turns answer (fit parts h.outline h.keeps h.graph_is h.inputs h.outline_kept h.outline_is) lone h.found
