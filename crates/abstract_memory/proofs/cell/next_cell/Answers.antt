use Rattle.std.proofs.Common.{sym, ◌∙◌}
use Rattle.abstract_memory.proofs.CellLists.{no_cells, none_fits, first_cell, fits_below}
use Rattle.abstract_memory.proofs.cell.next_cell.Goals as goal

pub returns-in-None-clause-none : goal.returns-in-None-clause-none
returns-in-None-clause-none c = λ frame. no_cells frame c.args.bits c.args.size c.args.members c.args.from c.numbers.ensures.stride c.in-None.ensures

pub returns-then-fits-clause-above : goal.returns-then-fits-clause-above
returns-then-fits-clause-above c = c.in-Some.ensures.above

pub returns-then-fits-clause-within : goal.returns-then-fits-clause-within
returns-then-fits-clause-within c = fits_below c.args.bits c.in-Some.offset c.args.size c.requires.some (sym c.if-fits.ensures)

pub returns-then-fits-clause-first : goal.returns-then-fits-clause-first
returns-then-fits-clause-first c = λ frame.
    first_cell frame c.args.bits c.args.size c.args.members c.args.from c.in-Some.offset c.requires.some c.numbers.ensures.stride c.in-Some.ensures (sym c.fits.ensures ∙ c.if-fits.true)

pub returns-else-fits-clause-none : goal.returns-else-fits-clause-none
returns-else-fits-clause-none c = λ frame.
    none_fits frame c.args.bits c.args.size c.args.members c.args.from c.in-Some.offset c.numbers.ensures.stride c.in-Some.ensures (sym c.fits.ensures ∙ c.if-fits.false)
