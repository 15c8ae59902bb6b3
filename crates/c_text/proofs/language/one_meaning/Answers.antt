-- Each text has one meaning.
use Rattle.c_text.proofs.Meaning.{has_one}
use Rattle.c_text.proofs.language.one_meaning.Goals as goal

pub returns : goal.returns
returns c = has_one
