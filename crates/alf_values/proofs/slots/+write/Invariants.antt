-- The measure of `write`.
use Rattle.alf_values.proofs.slots.+write.Given as goal

abbrev pub decreases-write : goal.decreases-write
decreases-write l = l.count
