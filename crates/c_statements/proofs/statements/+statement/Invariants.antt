-- Measures of the cycle of statements, and the loop over what stands in a block.
use Rattle.std.proofs.Common.{◌+◌, ◌*◌, map}
use Rattle.grammar.specs.Form.{left}
use Rattle.grammar.specs.Rows.{RowSoFar}
use Rattle.c_unit.specs.Tree.{statement_of}
use Rattle.c_grammar.specs.Statements.{in_block, standing}
use Rattle.c_reader.specs.Reading.{position}
use Rattle.c_statements.proofs.statements.+statement.Given as goal

abbrev pub decreases-read_standing : goal.decreases-read_standing
decreases-read_standing l = 8 * l.nesting

abbrev pub decreases-after_head : goal.decreases-after_head
decreases-after_head l = 8 * l.nesting + 7

abbrev pub decreases-braced : goal.decreases-braced
decreases-braced l = 8 * l.nesting + 6

abbrev pub decreases-switched : goal.decreases-switched
decreases-switched l = 8 * l.nesting + 2

abbrev pub decreases-switch_block : goal.decreases-switch_block
decreases-switch_block l = 8 * l.nesting + 1

abbrev pub decreases-controlled : goal.decreases-controlled
decreases-controlled l = 8 * l.nesting + 6

abbrev pub decreases-boxed_part : goal.decreases-boxed_part
decreases-boxed_part l = 8 * l.nesting + 1

abbrev pub decreases-maybe_else : goal.decreases-maybe_else
decreases-maybe_else l = 8 * l.nesting + 2

abbrev pub decreases-block_items : goal.decreases-block_items
decreases-block_items l = 8 * l.nesting + 1

abbrev pub invariant-block_items-row : goal.invariant-block_items-row
invariant-block_items-row l = RowSoFar in_block (standing l.nesting l.place) (map statement_of l.items.items) (position l.reader) (position l.fn.reader)

abbrev pub decreases-block_items-row : goal.decreases-block_items-row
decreases-block_items-row l = left (position l.reader)
