-- The measure of `some_without_store`: the bytes that are left.
use Rattle.frame_memory.proofs.byte.+some_without_store.Given as goal

abbrev pub decreases-some_without_store : goal.decreases-some_without_store
decreases-some_without_store l = l.count
