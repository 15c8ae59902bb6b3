-- What is left to show of `counted_units_have_few_frames`.
use Rattle.c_limits.proofs.NameUnits.{frames_few}
use Rattle.c_limits.proofs.name_laws.counted_units_have_few_frames.Goals as goal

pub returns : goal.returns
returns c = frames_few
