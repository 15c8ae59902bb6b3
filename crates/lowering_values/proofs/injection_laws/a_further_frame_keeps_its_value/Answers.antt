use Rattle.lowering_values.proofs.Loads.{kept_in}
use Rattle.lowering_values.proofs.injection_laws.a_further_frame_keeps_its_value.Goals as goal

pub returns : goal.returns
returns c = λ place is_embedded outer m h frame shape value agrees other at active sized some.
    kept_in place is_embedded c.a_load_gives_what_was_stored.ensures.same outer m h frame shape value agrees other at active sized some
