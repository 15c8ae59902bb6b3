-- What is left to show of `analyse_takes_what_its_words_say`.
use Rattle.std.proofs.Common.{refl}
use Rattle.sweet_words.proofs.worked.analyse_takes_what_its_words_say.Goals as goal

pub returns-clause-plain : goal.returns-clause-plain
unfolding Rattle.sweet_words.specs.Given.given Rattle.std.specs.Str.chars
returns-clause-plain c = refl

pub returns-clause-full : goal.returns-clause-full
unfolding Rattle.sweet_words.specs.Given.given Rattle.std.specs.Str.chars
returns-clause-full c = refl

pub returns-clause-few : goal.returns-clause-few
unfolding Rattle.sweet_words.specs.Given.given Rattle.std.specs.Str.chars
returns-clause-few c = refl

pub returns-clause-most : goal.returns-clause-most
unfolding Rattle.sweet_words.specs.Given.given Rattle.std.specs.Str.chars
returns-clause-most c = refl

pub returns-clause-pivots : goal.returns-clause-pivots
unfolding Rattle.sweet_words.specs.Given.given Rattle.std.specs.Str.chars
returns-clause-pivots c = refl

pub returns-clause-file : goal.returns-clause-file
unfolding Rattle.sweet_words.specs.Given.given Rattle.std.specs.Str.chars
returns-clause-file c = refl

pub returns-clause-quoted : goal.returns-clause-quoted
unfolding Rattle.sweet_words.specs.Given.given Rattle.std.specs.Str.chars
returns-clause-quoted c = refl
