use Rattle.memory_model.specs.KeptMemories.{rows_of}
use Rattle.branch_refinement.proofs.Tellings.{sized_fit}
use Rattle.branch_refinement.proofs.arms.arms_by.Goals as goal

pub push_arms-requires-clause-default : goal.push_arms-requires-clause-default
push_arms-requires-clause-default c =
    sized_fit (rows_of c.args.memory.checked) c.args.words.size c.args.told.now c.without_all-rest.result c.requires.fits c.without_all-rest.ensures.sized
