use Rattle.lowering_values.proofs.Calls.{starts_agree}
use Rattle.lowering_values.proofs.memories.starts_agree.Goals as goal

pub returns : goal.returns
returns c = λ unit program rows words cells laid are.
    starts_agree c.events_keep_agreement.ensures c.embedded_values_have_their_size.ensures unit program rows words cells laid are
