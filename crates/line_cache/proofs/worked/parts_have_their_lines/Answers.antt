-- What is left to show of `parts_have_their_lines`.
use Rattle.std.proofs.Common.{refl}
use Rattle.line_cache.proofs.worked.parts_have_their_lines.Goals as goal

pub returns-clause-two : goal.returns-clause-two
returns-clause-two c = refl

pub returns-clause-one : goal.returns-clause-one
returns-clause-one c = refl

pub returns-clause-whole : goal.returns-clause-whole
returns-clause-whole c = refl

pub returns-clause-byte_more : goal.returns-clause-byte_more
returns-clause-byte_more c = refl

pub returns-clause-none : goal.returns-clause-none
returns-clause-none c = refl

pub returns-clause-notes : goal.returns-clause-notes
returns-clause-notes c = refl
