use Rattle.lowering_values.proofs.Stores.{stores_agree}
use Rattle.lowering_values.proofs.memories.stores_agree.Goals as goal

pub returns : goal.returns
returns c = λ unit frame m h size to e place v stand agree gives_place gives_value fits.
    stores_agree c.loads_and_stores_agree.ensures.stores unit frame m h size to e place v stand agree gives_place gives_value fits
