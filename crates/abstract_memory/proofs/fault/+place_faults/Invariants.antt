use Rattle.std.proofs.Common.{length}
use Rattle.abstract_memory.proofs.fault.+place_faults.Given as goal

abbrev pub decreases-place_faults : goal.decreases-place_faults
decreases-place_faults l = length l.places.now
