-- What is left to show of `bytes_that_stand_give_each_load`: the lemma.
use Rattle.alf_values.proofs.EachLoads.{each_load}
use Rattle.alf_values.proofs.laws.bytes_that_stand_give_each_load.Goals as goal

pub returns : goal.returns
returns c = each_load
