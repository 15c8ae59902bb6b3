use Rattle.lowering_values.proofs.Calls.{results_agree}
use Rattle.lowering_values.proofs.memories.results_are_kept.Goals as goal

pub returns : goal.returns
returns c = λ unit f frame m h k i v stand naming among agree running fits.
    results_agree c.a_further_frame_keeps_its_value.ensures c.embedded_values_have_their_size.ensures c.conversions_give_the_same.ensures.extends
    c.values_have_their_size.ensures.extends unit f frame m h k i v stand naming among agree running fits
