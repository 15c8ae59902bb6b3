-- The table of no declaration says of no name that it gives a value.
use Rattle.std.proofs.Common.{refl}
use Rattle.c_grammar.specs.Tokens.{gives_value}
use Rattle.c_reader.proofs.names.Names.new.Goals as goal

pub invariant_of-result : goal.invariant_of-result
unfolding gives_value
invariant_of-result c = λ name. rw (c.new-2.ensures.empty, c.new.ensures.items) refl
