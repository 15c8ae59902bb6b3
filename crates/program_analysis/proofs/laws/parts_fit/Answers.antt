use Rattle.program_analysis.proofs.FittingLaws.{parts_fit}
use Rattle.program_analysis.proofs.laws.parts_fit.Goals as goal

pub returns : goal.returns
returns c =
    let stores = c.starts_and_calls_store_without_a_fault.ensures in
    let places = c.active_frames_follow_the_call_path.ensures in
    let leads = c.a_step_leads_along_an_edge.ensures in
    parts_fit (record {
      points = record { expands = c.graphs_are_expansions.ensures; along = leads.along; kept = leads.kept; found = places.found; inputs = places.inputs };
      sizes = c.values_have_their_size.ensures.value;
    }) (record { calls = stores.calls; arguments = stores.arguments; starts = stores.starts; inputs = places.inputs })
