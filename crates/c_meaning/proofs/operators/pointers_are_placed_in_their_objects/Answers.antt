-- What is left to show of `pointers_are_placed_in_their_objects`.
use Rattle.std.proofs.Common.{refl}
use Rattle.c_meaning.proofs.operators.pointers_are_placed_in_their_objects.Goals as goal

pub returns-clause-before : goal.returns-clause-before
returns-clause-before c = refl

pub returns-clause-behind : goal.returns-clause-behind
returns-clause-behind c = refl

pub returns-clause-apart : goal.returns-clause-apart
returns-clause-apart c = refl

pub returns-clause-elements : goal.returns-clause-elements
returns-clause-elements c = refl

pub returns-clause-backwards : goal.returns-clause-backwards
returns-clause-backwards c = refl

pub returns-clause-bytes : goal.returns-clause-bytes
returns-clause-bytes c = refl

pub returns-clause-no_distance : goal.returns-clause-no_distance
returns-clause-no_distance c = refl

pub returns-clause-same : goal.returns-clause-same
returns-clause-same c = refl

pub returns-clause-other_object : goal.returns-clause-other_object
returns-clause-other_object c = refl

pub returns-clause-other_offset : goal.returns-clause-other_offset
returns-clause-other_offset c = refl

pub returns-clause-unequal : goal.returns-clause-unequal
returns-clause-unequal c = refl

pub returns-clause-further : goal.returns-clause-further
returns-clause-further c = refl

pub returns-clause-nearer : goal.returns-clause-nearer
returns-clause-nearer c = refl
