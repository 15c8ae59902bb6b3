-- Measures of the cycle of expressions, and the loops over operators and indices.
use Rattle.std.proofs.Common.{◌+◌, ◌*◌}
use Rattle.grammar.specs.Form.{left}
use Rattle.grammar.specs.Turns.{ChainSoFar}
use Rattle.c_unit.specs.Tree.{expression_of}
use Rattle.c_grammar.specs.Expressions.{at_operation, operation, at_index, index, deeper_of}
use Rattle.c_reader.specs.Reading.{position}
use Rattle.c_expressions.proofs.expressions.+expr.Given as goal

abbrev pub decreases-read_expr : goal.decreases-read_expr
decreases-read_expr l = 20 * (l.parens + l.depth) + 9

abbrev pub decreases-operations : goal.decreases-operations
decreases-operations l = 20 * (l.parens + l.depth) + 3

abbrev pub decreases-operation : goal.decreases-operation
decreases-operation l = 20 * (l.parens + l.depth) + 2

abbrev pub decreases-read_operand : goal.decreases-read_operand
decreases-read_operand l = 20 * (l.parens + l.depth) + 8

abbrev pub decreases-operand_after : goal.decreases-operand_after
decreases-operand_after l = 20 * (l.parens + l.depth) + 7

abbrev pub decreases-indexed : goal.decreases-indexed
decreases-indexed l = 20 * (l.parens + l.depth) + 3

abbrev pub decreases-read_index : goal.decreases-read_index
decreases-read_index l = 20 * (l.parens + l.depth) + 2

abbrev pub decreases-bracketed_indexed : goal.decreases-bracketed_indexed
decreases-bracketed_indexed l = 20 * (l.parens + l.depth) + 6

abbrev pub decreases-bracketed : goal.decreases-bracketed
decreases-bracketed l = 20 * (l.parens + l.depth) + 5

abbrev pub decreases-read_cast : goal.decreases-read_cast
decreases-read_cast l = 20 * (l.parens + l.depth) + 4

abbrev pub decreases-parenthesised : goal.decreases-parenthesised
decreases-parenthesised l = 20 * (l.parens + l.depth) + 4

abbrev pub decreases-prefixed : goal.decreases-prefixed
decreases-prefixed l = 20 * (l.parens + l.depth) + 4

abbrev pub decreases-read_inner : goal.decreases-read_inner
decreases-read_inner l = 20 * (l.parens + l.depth) + 1

abbrev pub decreases-deeper : goal.decreases-deeper
decreases-deeper l = 20 * (l.parens + l.depth) + 1

abbrev pub invariant-operations-chain : goal.invariant-operations-chain
invariant-operations-chain l =
    ChainSoFar (at_operation l.min l.logical) (operation l.depth (deeper_of l.parens l.depth) l.logical) (expression_of l.fn.left) (expression_of l.value) (position l.reader) (position l.fn.reader)

abbrev pub decreases-operations-chain : goal.decreases-operations-chain
decreases-operations-chain l = left (position l.reader)

abbrev pub invariant-indexed-chain : goal.invariant-indexed-chain
invariant-indexed-chain l =
    ChainSoFar at_index (index l.depth (deeper_of l.parens l.depth)) (expression_of l.fn.base) (expression_of l.value) (position l.reader) (position l.fn.reader)

abbrev pub decreases-indexed-chain : goal.decreases-indexed-chain
decreases-indexed-chain l = left (position l.reader)
