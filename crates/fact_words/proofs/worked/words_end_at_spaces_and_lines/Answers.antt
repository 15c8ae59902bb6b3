-- What is left to show of `words_end_at_spaces_and_lines`.
use Rattle.std.proofs.Common.{refl}
use Rattle.fact_words.proofs.worked.words_end_at_spaces_and_lines.Goals as goal

pub returns-clause-lines : goal.returns-clause-lines
returns-clause-lines c = refl

pub returns-clause-quoted : goal.returns-clause-quoted
returns-clause-quoted c = refl

pub returns-clause-open : goal.returns-clause-open
returns-clause-open c = refl

pub returns-clause-twice : goal.returns-clause-twice
returns-clause-twice c = refl
