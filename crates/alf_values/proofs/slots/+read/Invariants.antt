-- The measure of `read`.
use Rattle.alf_values.proofs.slots.+read.Given as goal

abbrev pub decreases-read : goal.decreases-read
decreases-read l = l.count
