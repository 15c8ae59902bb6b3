-- The measure of `word_of_bytes`: the bytes that are left.
use Rattle.frame_memory.proofs.word.+word_of_bytes.Given as goal

abbrev pub decreases-word_of_bytes : goal.decreases-word_of_bytes
decreases-word_of_bytes l = l.count
