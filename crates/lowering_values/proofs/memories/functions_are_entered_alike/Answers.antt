use Rattle.lowering_values.proofs.Calls.{enters_agree}
use Rattle.lowering_values.proofs.memories.functions_are_entered_alike.Goals as goal

pub returns : goal.returns
returns c = λ unit program g vs m h laid fits agree.
    enters_agree c.events_keep_agreement.ensures c.embedded_values_have_their_size.ensures unit program g vs m h laid fits agree
