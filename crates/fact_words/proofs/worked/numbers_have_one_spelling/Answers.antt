-- What is left to show of `numbers_have_one_spelling`.
use Rattle.std.proofs.Common.{refl}
use Rattle.fact_words.proofs.worked.numbers_have_one_spelling.Goals as goal

pub returns-clause-most : goal.returns-clause-most
unfolding Rattle.fact_words.specs.Numbers.number_within
returns-clause-most c = refl

pub returns-clause-more : goal.returns-clause-more
unfolding Rattle.fact_words.specs.Numbers.number_within
returns-clause-more c = refl

pub returns-clause-zero : goal.returns-clause-zero
unfolding Rattle.fact_words.specs.Numbers.number_within
returns-clause-zero c = refl

pub returns-clause-zeros : goal.returns-clause-zeros
unfolding Rattle.fact_words.specs.Numbers.number_within
returns-clause-zeros c = refl

pub returns-clause-great_first : goal.returns-clause-great_first
unfolding Rattle.fact_words.specs.Numbers.number_within
returns-clause-great_first c = refl

pub returns-clause-none : goal.returns-clause-none
unfolding Rattle.fact_words.specs.Numbers.number_within
returns-clause-none c = refl

pub returns-clause-letter : goal.returns-clause-letter
unfolding Rattle.fact_words.specs.Numbers.number_within
returns-clause-letter c = refl

pub returns-clause-negative : goal.returns-clause-negative
unfolding Rattle.fact_words.specs.Numbers.whole_within Rattle.fact_words.specs.Numbers.number_within
returns-clause-negative c = refl

pub returns-clause-minus_zero : goal.returns-clause-minus_zero
unfolding Rattle.fact_words.specs.Numbers.whole_within Rattle.fact_words.specs.Numbers.number_within
returns-clause-minus_zero c = refl

pub returns-clause-least : goal.returns-clause-least
unfolding Rattle.fact_words.specs.Numbers.whole_within Rattle.fact_words.specs.Numbers.number_within
returns-clause-least c = refl

pub returns-clause-greatest : goal.returns-clause-greatest
unfolding Rattle.fact_words.specs.Numbers.whole_within Rattle.fact_words.specs.Numbers.number_within
returns-clause-greatest c = refl

pub returns-clause-past : goal.returns-clause-past
unfolding Rattle.fact_words.specs.Numbers.whole_within Rattle.fact_words.specs.Numbers.number_within
returns-clause-past c = refl
