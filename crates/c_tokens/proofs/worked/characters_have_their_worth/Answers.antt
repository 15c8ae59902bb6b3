-- What is left to show of `characters_have_their_worth`.
use Rattle.std.proofs.Common.{refl}
use Rattle.c_tokens.proofs.worked.characters_have_their_worth.Goals as goal

pub returns-clause-letter : goal.returns-clause-letter
returns-clause-letter c = refl

pub returns-clause-feed : goal.returns-clause-feed
returns-clause-feed c = refl

pub returns-clause-tab : goal.returns-clause-tab
returns-clause-tab c = refl

pub returns-clause-null : goal.returns-clause-null
returns-clause-null c = refl

pub returns-clause-quote : goal.returns-clause-quote
returns-clause-quote c = refl

pub returns-clause-other : goal.returns-clause-other
returns-clause-other c = refl
