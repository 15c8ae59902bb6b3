-- Measures of the cycle of expressions, and the loop over the operands of an operator.
use Rattle.std.proofs.Common.{◌+◌, ◌*◌, map}
use Rattle.grammar.specs.Rows.{CountSoFar}
use Rattle.alf_program.specs.Tree.{expression_of}
use Rattle.alf_reader.specs.Grammar.{expr}
use Rattle.alf_reader.specs.Reading.{position}
use Rattle.alf_reader.proofs.reader.Reader.+expr.Given as goal

abbrev pub decreases-expr : goal.decreases-expr
decreases-expr l = 6 * l.depth

abbrev pub decreases-nested : goal.decreases-nested
decreases-nested l = 6 * l.depth + 5

abbrev pub decreases-load : goal.decreases-load
decreases-load l = 6 * l.depth + 2

abbrev pub decreases-operator : goal.decreases-operator
decreases-operator l = 6 * l.depth + 3

abbrev pub decreases-apply : goal.decreases-apply
decreases-apply l = 6 * l.depth + 2

abbrev pub decreases-operands : goal.decreases-operands
decreases-operands l = 6 * l.depth + 1

abbrev pub invariant-operands-loop : goal.invariant-operands-loop
invariant-operands-loop l = CountSoFar (expr l.depth) l.count l.counter (map expression_of l.operands.items) (position l.self) (position l.fn.self)
