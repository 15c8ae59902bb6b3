-- Each text has one meaning.
use Rattle.fact_text.proofs.Meaning.{has_one}
use Rattle.fact_text.proofs.language.one_meaning.Goals as goal

pub returns : goal.returns
returns c = has_one
