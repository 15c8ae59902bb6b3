use Rattle.transfer_rules.proofs.PointLemmas.{run_is_run}
use Rattle.transfer_rules.specs.TraceLaws.{trace_is_trace}
use Rattle.transfer_rules.proofs.point_laws.runs_are_runs_of_points.Goals as goal

pub returns-clause-run : goal.returns-clause-run
returns-clause-run c = run_is_run (record {
  expands = c.graphs_are_expansions.ensures;
  along = c.a_step_leads_along_an_edge.ensures.along;
  kept = c.a_step_leads_along_an_edge.ensures.kept;
  found = c.active_frames_follow_the_call_path.ensures.found;
  inputs = c.active_frames_follow_the_call_path.ensures.inputs;
})

pub returns-clause-trace : goal.returns-clause-trace
returns-clause-trace c = trace_is_trace
