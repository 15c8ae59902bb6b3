use Rattle.transfer_rules.proofs.TransferLemmas.{transfer_is_machine, transfer_goes_along}
use Rattle.transfer_rules.proofs.step_laws.the_transfer_is_a_machine.Goals as goal

pub returns-clause-machine : goal.returns-clause-machine
returns-clause-machine c = transfer_is_machine (record {
  points = record {
    expands = c.graphs_are_expansions.ensures;
    along = c.a_step_leads_along_an_edge.ensures.along;
    kept = c.a_step_leads_along_an_edge.ensures.kept;
    found = c.active_frames_follow_the_call_path.ensures.found;
    inputs = c.active_frames_follow_the_call_path.ensures.inputs;
  };
  sizes = c.values_have_their_size.ensures.value;
})

pub returns-clause-along : goal.returns-clause-along
returns-clause-along c = transfer_goes_along (record {
  points = record {
    expands = c.graphs_are_expansions.ensures;
    along = c.a_step_leads_along_an_edge.ensures.along;
    kept = c.a_step_leads_along_an_edge.ensures.kept;
    found = c.active_frames_follow_the_call_path.ensures.found;
    inputs = c.active_frames_follow_the_call_path.ensures.inputs;
  };
  sizes = c.values_have_their_size.ensures.value;
})
