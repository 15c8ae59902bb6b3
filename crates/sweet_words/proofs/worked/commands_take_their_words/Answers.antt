-- What is left to show of `commands_take_their_words`.
use Rattle.std.proofs.Common.{refl}
use Rattle.sweet_words.proofs.worked.commands_take_their_words.Goals as goal

pub returns-clause-check : goal.returns-clause-check
unfolding Rattle.sweet_words.specs.Given.given Rattle.std.specs.Str.chars
returns-clause-check c = refl

pub returns-clause-replay : goal.returns-clause-replay
unfolding Rattle.sweet_words.specs.Given.given Rattle.std.specs.Str.chars
returns-clause-replay c = refl

pub returns-clause-lower : goal.returns-clause-lower
unfolding Rattle.sweet_words.specs.Given.given Rattle.std.specs.Str.chars
returns-clause-lower c = refl

pub returns-clause-lower_alf : goal.returns-clause-lower_alf
unfolding Rattle.sweet_words.specs.Given.given Rattle.std.specs.Str.chars
returns-clause-lower_alf c = refl

pub returns-clause-print : goal.returns-clause-print
unfolding Rattle.sweet_words.specs.Given.given Rattle.std.specs.Str.chars
returns-clause-print c = refl

pub returns-clause-run : goal.returns-clause-run
unfolding Rattle.sweet_words.specs.Given.given Rattle.std.specs.Str.chars
returns-clause-run c = refl

pub returns-clause-generate : goal.returns-clause-generate
unfolding Rattle.sweet_words.specs.Given.given Rattle.std.specs.Str.chars
returns-clause-generate c = refl

pub returns-clause-more : goal.returns-clause-more
unfolding Rattle.sweet_words.specs.Given.given Rattle.std.specs.Str.chars
returns-clause-more c = refl

pub returns-clause-migrate : goal.returns-clause-migrate
unfolding Rattle.sweet_words.specs.Given.given Rattle.std.specs.Str.chars
returns-clause-migrate c = refl

pub returns-clause-cache : goal.returns-clause-cache
unfolding Rattle.sweet_words.specs.Given.given Rattle.std.specs.Str.chars
returns-clause-cache c = refl

pub returns-clause-worst : goal.returns-clause-worst
unfolding Rattle.sweet_words.specs.Given.given Rattle.std.specs.Str.chars
returns-clause-worst c = refl

pub returns-clause-tasks : goal.returns-clause-tasks
unfolding Rattle.sweet_words.specs.Given.given Rattle.std.specs.Str.chars
returns-clause-tasks c = refl

pub returns-clause-unknown : goal.returns-clause-unknown
unfolding Rattle.sweet_words.specs.Given.given Rattle.std.specs.Str.chars
returns-clause-unknown c = refl
