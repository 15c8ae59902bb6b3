-- What is left to show of `casts_keep_the_lowest_bits`.
use Rattle.std.proofs.Common.{refl}
use Rattle.c_meaning.proofs.operators.casts_keep_the_lowest_bits.Goals as goal

pub returns-clause-signed_byte : goal.returns-clause-signed_byte
returns-clause-signed_byte c = refl

pub returns-clause-byte : goal.returns-clause-byte
returns-clause-byte c = refl

pub returns-clause-signed_short : goal.returns-clause-signed_short
returns-clause-signed_short c = refl

pub returns-clause-short : goal.returns-clause-short
returns-clause-short c = refl

pub returns-clause-word : goal.returns-clause-word
returns-clause-word c = refl

pub returns-clause-pointer : goal.returns-clause-pointer
returns-clause-pointer c = refl

pub returns-clause-no_word : goal.returns-clause-no_word
returns-clause-no_word c = refl
