use Rattle.left_cells.proofs.Held.{whole_row}
use Rattle.left_cells.proofs.cells.lies_in.Goals as goal

pub returns-else-lies_moved-2 : goal.returns-else-lies_moved-2
returns-else-lies_moved-2 c = λ yes. whole_row c.args.row.now c.args.words.numbers.lo c.args.words.numbers.hi (c.is_whole.ensures yes)
