use Rattle.lowering_values.proofs.Agreeing.{object_gives}
use Rattle.lowering_values.proofs.memories.objects_have_their_address.Goals as goal

pub returns : goal.returns
returns c = λ unit f frame m token offset naming sees. object_gives unit f frame m token offset naming sees
