use Rattle.lowering_values.proofs.Calls.{outputs_agree}
use Rattle.lowering_values.proofs.memories.outputs_agree.Goals as goal

pub returns : goal.returns
returns c = λ unit program m h laid agree. outputs_agree c.loads_and_stores_agree.ensures.loads unit program m h laid agree
