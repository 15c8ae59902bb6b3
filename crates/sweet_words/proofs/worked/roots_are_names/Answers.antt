-- What is left to show of `roots_are_names`.
use Rattle.std.proofs.Common.{refl}
use Rattle.sweet_words.proofs.worked.roots_are_names.Goals as goal

pub returns-clause-absent : goal.returns-clause-absent
unfolding Rattle.std.specs.Str.chars
returns-clause-absent c = refl

pub returns-clause-named : goal.returns-clause-named
unfolding Rattle.std.specs.Str.chars
returns-clause-named c = refl

pub returns-clause-empty : goal.returns-clause-empty
unfolding Rattle.std.specs.Str.chars
returns-clause-empty c = refl

pub returns-clause-longest : goal.returns-clause-longest
unfolding Rattle.std.specs.Str.chars
returns-clause-longest c = refl

pub returns-clause-long : goal.returns-clause-long
unfolding Rattle.std.specs.Str.chars
returns-clause-long c = refl

pub returns-clause-line_feed : goal.returns-clause-line_feed
unfolding Rattle.std.specs.Str.chars
returns-clause-line_feed c = refl

pub returns-clause-control : goal.returns-clause-control
unfolding Rattle.std.specs.Str.chars
returns-clause-control c = refl

pub returns-clause-quote : goal.returns-clause-quote
unfolding Rattle.std.specs.Str.chars
returns-clause-quote c = refl

pub returns-clause-backslash : goal.returns-clause-backslash
unfolding Rattle.std.specs.Str.chars
returns-clause-backslash c = refl

pub returns-clause-high : goal.returns-clause-high
unfolding Rattle.std.specs.Str.chars
returns-clause-high c = refl
