-- What is left to show of `words_make_a_type`.
use Rattle.std.proofs.Common.{refl}
use Rattle.c_grammar.proofs.worked.words_make_a_type.Goals as goal

pub returns-clause-unsigned_short : goal.returns-clause-unsigned_short
returns-clause-unsigned_short c = refl

pub returns-clause-signed : goal.returns-clause-signed
returns-clause-signed c = refl

pub returns-clause-char : goal.returns-clause-char
returns-clause-char c = refl

pub returns-clause-none : goal.returns-clause-none
returns-clause-none c = refl

pub returns-clause-int_short : goal.returns-clause-int_short
returns-clause-int_short c = refl

pub returns-clause-twice : goal.returns-clause-twice
returns-clause-twice c = refl

pub returns-clause-void : goal.returns-clause-void
returns-clause-void c = refl

pub returns-clause-static_local : goal.returns-clause-static_local
returns-clause-static_local c = refl
