-- Where each range has one number, what is told is exactly the one run.
use Rattle.sweet_cli.proofs.Exactly.{answered_exactly, exactly}
use Rattle.sweet_cli.proofs.laws.one_input_is_told_exactly.Goals as goal

pub returns-clause-programs : goal.returns-clause-programs
returns-clause-programs c = exactly c.a_graph_has_one_outline.ensures c.an_input_alone_is_told_exactly.ensures c.bounds_of_an_input_alone_agree.ensures

pub returns-clause-files : goal.returns-clause-files
returns-clause-files c = answered_exactly c.a_graph_has_one_outline.ensures c.an_input_alone_is_told_exactly.ensures c.bounds_of_an_input_alone_agree.ensures
