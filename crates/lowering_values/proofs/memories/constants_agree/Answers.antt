use Rattle.lowering_values.proofs.Calls.{element_agrees}
use Rattle.lowering_values.proofs.memories.constants_agree.Goals as goal

pub returns : goal.returns
returns c = λ unit frame m kind cs. element_agrees c.conversions_give_the_same.ensures.cuts c.conversions_give_the_same.ensures.words unit frame m kind cs
