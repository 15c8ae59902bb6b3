-- Laws of checking.
--   one_check       why
use Rattle.alf_check.specs.CheckedPrograms.{seen}
use Rattle.flow_graph.specs.Graphs.{HasProgram}
use Rattle.memory_model.specs.SeenOrders.{parts_order}
use Rattle.abstract_step.specs.Steppers.{StepperParts, stepped_by}
use Rattle.program_analysis.specs.AnalysisLaws.{HasOneAlike}
use Rattle.program_analysis.specs.TwinMachines.{IsTwin}
use Rattle.program_analysis.specs.TwinMachineLaws.{first_twin, machines_are_twins}
use Rattle.report_objections.specs.OneLaws.{one_answer}
use Rattle.program_checks.proofs.AlikeCheckLaws.{checked_along}
use Rattle.program_checks.proofs.TwinCheckLaws.{checked_beside}
use Rattle.program_checks.specs.Checking.{HasOneCheck}

-- a report has one answer
pub one_check : HasOneAlike → HasOneCheck
one_check alike program graph rows costs report a b h k =
    let first : StepperParts = record { checked = h.checked; graph = graph; rows = rows } in
    let second : StepperParts = record { checked = k.checked; graph = graph; rows = rows } in
    let has : HasProgram graph = record { program = seen h.checked; keeps = h.keeps; is = h.graph_is } in
    let are = alike program graph costs h.outline k.outline has h.outline_is h.names h.costs_are k.outline_is k.names k.costs_are in
    let beside = checked_beside stepped_by parts_order (IsTwin h.checked k.checked) second first h.outline report a
    (machines_are_twins program h.checked k.checked h.program_is k.program_is graph rows) (first_twin program h.checked k.checked h.program_is k.program_is graph rows) h.answer_is in
    one_answer stepped_by parts_order second k.outline report a b (checked_along stepped_by parts_order second h.outline k.outline report a are beside) k.answer_is
