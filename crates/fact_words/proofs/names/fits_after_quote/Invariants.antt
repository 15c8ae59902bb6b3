-- The parts of the rest fit where all parts do.
use Rattle.std.proofs.Common.{◌≡◌, true, length}
use Rattle.fact_words.specs.Names.{fits_parts, parts_of}
use Rattle.fact_words.proofs.names.fits_after_quote.Given as goal

abbrev pub invariant-loop-others : goal.invariant-loop-others
invariant-loop-others l = fits_parts l.quoted (parts_of l.rest) ≡ fits_parts true (parts_of l.text)

abbrev pub decreases-loop-others : goal.decreases-loop-others
decreases-loop-others l = length l.rest
