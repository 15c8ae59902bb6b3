-- What is printed is cut again.
use Rattle.std.proofs.Common.{false}
use Rattle.alf_tokens.specs.Tokens.{tokens_of}
use Rattle.alf_tokens.proofs.Pieces.{names_well}
use Rattle.alf_tokens.proofs.Printed.{printed_cut}
use Rattle.alf_tokens.proofs.laws.printed_texts_are_cut.Goals as goal

pub returns-clause-cut : goal.returns-clause-cut
returns-clause-cut c = printed_cut

pub returns-clause-names : goal.returns-clause-names
unfolding tokens_of
returns-clause-names c = names_well false
