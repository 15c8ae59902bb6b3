-- What is left to show of `pointers_keep_their_types`.
use Rattle.std.proofs.Common.{refl}
use Rattle.c_rules.proofs.types.pointers_keep_their_types.Goals as goal

pub returns-clause-same : goal.returns-clause-same
returns-clause-same c = refl

pub returns-clause-other : goal.returns-clause-other
returns-clause-other c = refl

pub returns-clause-narrow : goal.returns-clause-narrow
returns-clause-narrow c = refl

pub returns-clause-no_word : goal.returns-clause-no_word
returns-clause-no_word c = refl

pub returns-clause-no_pointer : goal.returns-clause-no_pointer
returns-clause-no_pointer c = refl

pub returns-clause-words : goal.returns-clause-words
returns-clause-words c = refl

pub returns-clause-compared : goal.returns-clause-compared
returns-clause-compared c = refl

pub returns-clause-unequal_types : goal.returns-clause-unequal_types
returns-clause-unequal_types c = refl

pub returns-clause-ordered : goal.returns-clause-ordered
returns-clause-ordered c = refl

pub returns-clause-subtracted : goal.returns-clause-subtracted
returns-clause-subtracted c = refl

pub returns-clause-distance : goal.returns-clause-distance
returns-clause-distance c = refl

pub returns-clause-beside_a_word : goal.returns-clause-beside_a_word
returns-clause-beside_a_word c = refl

pub returns-clause-added : goal.returns-clause-added
returns-clause-added c = refl

pub returns-clause-moved : goal.returns-clause-moved
returns-clause-moved c = refl

pub returns-clause-cast : goal.returns-clause-cast
returns-clause-cast c = refl

pub returns-clause-no_cast : goal.returns-clause-no_cast
returns-clause-no_cast c = refl
