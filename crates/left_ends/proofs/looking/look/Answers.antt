use Rattle.left_ends.proofs.Looks.{none_left}
use Rattle.left_ends.proofs.looking.look.Goals as goal

pub returns-in-None-clause-looked : goal.returns-in-None-clause-looked
returns-in-None-clause-looked c =
    none_left c.args.checked.now c.args.graph.now c.args.node c.args.state.now c.args.ends (c.last_block.ensures.none c.in-None.is)
