-- The measure of `some_pointer`: the bytes that are left.
use Rattle.frame_memory.proofs.word.+some_pointer.Given as goal

abbrev pub decreases-some_pointer : goal.decreases-some_pointer
decreases-some_pointer l = l.count
