-- Once what is left is known, all is.
use Rattle.std.proofs.Common.{◌≡◌, map, length}
use Rattle.c_unit.specs.Tree.{declarator_of}
use Rattle.c_lower.specs.Heads.{with_declarators}
use Rattle.c_lower.proofs.heads.declare.Given as goal

abbrev pub invariant-declarators : goal.invariant-declarators
invariant-declarators l = with_declarators l.given (map declarator_of l.rest) l.scopes ≡ with_declarators l.given (map declarator_of l.declarators) l.initial.scopes

abbrev pub decreases-declarators : goal.decreases-declarators
decreases-declarators l = length l.rest
