-- What is left to show of `keywords_are_those_of_c`.
use Rattle.std.proofs.Common.{refl}
use Rattle.c_tokens.proofs.worked.keywords_are_those_of_c.Goals as goal

pub returns-clause-count : goal.returns-clause-count
unfolding Rattle.c_tokens.specs.Keywords.keywords
returns-clause-count c = refl

pub returns-clause-inline_word : goal.returns-clause-inline_word
unfolding Rattle.c_tokens.specs.Keywords.is_keyword Rattle.c_tokens.specs.Keywords.keywords
returns-clause-inline_word c = refl

pub returns-clause-restrict_word : goal.returns-clause-restrict_word
unfolding Rattle.c_tokens.specs.Keywords.is_keyword Rattle.c_tokens.specs.Keywords.keywords
returns-clause-restrict_word c = refl

pub returns-clause-whole : goal.returns-clause-whole
unfolding Rattle.c_tokens.specs.Keywords.is_keyword Rattle.c_tokens.specs.Keywords.keywords
returns-clause-whole c = refl

pub returns-clause-longer : goal.returns-clause-longer
unfolding Rattle.c_tokens.specs.Keywords.is_keyword Rattle.c_tokens.specs.Keywords.keywords
returns-clause-longer c = refl
