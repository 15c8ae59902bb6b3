use Rattle.alf_runs.specs.Starts.{words_of}
use Rattle.lowering_layout.specs.CheckedLaws.{program_has_names}
use Rattle.lowering_simulation.specs.Lowering.{LoweringIsRight, EachStartIsOfTheUnit}
use Rattle.lowering_simulation.proofs.Placed.{placed}
use Rattle.lowering_simulation.proofs.Inputs.{are_cells, one_cells}
use Rattle.lowering_simulation.proofs.program_laws.each_program_has_the_outcome_of_its_unit.Goals as goal

pub returns : goal.returns
returns c = record { cells = cells; starts = starts }
  where
    cells : LoweringIsRight
    cells unit name ranks program rows words given is spelled plain lowered are =
        let names = program_has_names unit name ranks is spelled in
        c.lowered_programs_have_the_units_outcome.ensures unit name ranks program rows words given is names plain lowered
        (placed c.each_object_has_its_frame.ensures.places c.functions_keep_their_number.ensures c.names_stand_for_their_frames.ensures c.programs_are_laid_out.ensures
        unit name program names lowered) are

    starts : EachStartIsOfTheUnit
    starts unit name ranks program rows numbers is spelled plain lowered keep within =
        let names = program_has_names unit name ranks is spelled in
        let frames = placed c.each_object_has_its_frame.ensures.places c.functions_keep_their_number.ensures c.names_stand_for_their_frames.ensures c.programs_are_laid_out.ensures unit name program names lowered in
        let words = words_of rows numbers in
        let given = are_cells c.each_object_has_its_frame.ensures.globals unit program names frames.laid rows words keep.each
        (c.active_frames_follow_the_call_path.ensures.inputs rows numbers within) in
        record {
          cells = given.0;
          hold = given.1;
          only = λ others hold. one_cells unit frames.laid.frames rows words others given.0 hold given.1;
          outcomes = c.lowered_programs_have_the_units_outcome.ensures unit name ranks program rows words given.0 is names plain lowered frames given.1;
        }
