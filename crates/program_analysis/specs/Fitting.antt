-- Parts and outlines that fit.
--   PartsFit   the law: the parts of a checked program, its graph, rows that keep the rules and the graph's outline fit
use Rattle.alf_check.specs.CheckedPrograms.{seen}
use Rattle.alf_check.specs.Inputs.{KeepInputs}
use Rattle.alf_check.specs.Kept.{IsKept}
use Rattle.flow_graph.specs.Numbering.{IsGraph}
use Rattle.domain_core.specs.Outlines.{Outlined, IsOutline, shape_of}
use Rattle.domain_core.specs.OutlineOf.{IsOutlineOf}
use Rattle.scope_graph.specs.Placing.{plan_of}
use Rattle.abstract_step.specs.Steppers.{StepperParts}
use Rattle.program_analysis.specs.LoneLaws.{AreFit}

abbrev pub PartsFit : Type 0
PartsFit = (parts : StepperParts) (o : Outlined) → IsKept (seen parts.checked) → IsGraph (seen parts.checked) parts.graph → KeepInputs (seen parts.checked) parts.rows
    → IsOutline (shape_of o) → IsOutlineOf (plan_of parts.graph) (shape_of o) → AreFit parts o
