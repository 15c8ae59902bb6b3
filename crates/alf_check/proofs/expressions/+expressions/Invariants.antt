use Rattle.std.proofs.Common.{◌≡◌, map, take}
use Rattle.alf_program.specs.Tree.{expression_of, with_frames}
use Rattle.alf_check.specs.CheckedPrograms.{term_of}
use Rattle.alf_check.specs.Names.{numbers_of}
use Rattle.alf_check.proofs.expressions.+expressions.Given as goal

abbrev pub invariant-terms-loop-expr : goal.invariant-terms-loop-expr
invariant-terms-loop-expr l = map term_of l.terms.items ≡ map (with_frames (numbers_of l.names).frame) (map expression_of (take l.expr-index l.exprs))
