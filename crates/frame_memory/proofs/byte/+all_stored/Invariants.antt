-- The measure of `all_stored`: the bytes that are left.
use Rattle.frame_memory.proofs.byte.+all_stored.Given as goal

abbrev pub decreases-all_stored : goal.decreases-all_stored
decreases-all_stored l = l.count
