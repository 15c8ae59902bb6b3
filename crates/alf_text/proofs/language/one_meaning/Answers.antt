-- Each text has one meaning.
use Rattle.alf_text.proofs.Meaning.{has_one}
use Rattle.alf_text.proofs.language.one_meaning.Goals as goal

pub returns : goal.returns
returns c = has_one
