use Rattle.alf_check.specs.CheckedPrograms.{seen}
use Rattle.transfer_rules.specs.PointLaws.{Promises}
use Rattle.program_machines.specs.ProgramRunLaws.{program_run, over_is_over}
use Rattle.program_machines.proofs.ProgramRunLemmas.{system_run, end_is_over}
use Rattle.program_machines.proofs.laws.runs_of_a_program_are_runs_of_its_machine.Goals as goal

pub returns : goal.returns
returns c =
    let promises : Promises = record {
      expands = c.graphs_are_expansions.ensures;
      along = c.a_step_leads_along_an_edge.ensures.along;
      kept = c.a_step_leads_along_an_edge.ensures.kept;
      found = c.active_frames_follow_the_call_path.ensures.found;
      inputs = c.active_frames_follow_the_call_path.ensures.inputs;
    } in
    record {
      program = λ checked graph rows start keeps is from. program_run promises (seen checked) graph keeps is rows start from;
      system = λ checked graph rows run keeps is runs. system_run promises (seen checked) graph keeps is rows run runs;
      over = λ checked graph rows start last n history keeps is from here over. over_is_over promises (seen checked) graph keeps is rows start from last n history here over;
      end = λ checked graph rows start trace outcome keeps is from runs. end_is_over promises (seen checked) graph keeps is rows start from trace outcome runs;
    }
