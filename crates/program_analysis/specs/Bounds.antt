-- How far an analysis goes.
--   most_turns      the most turns of an analysis
use Rattle.std.proofs.Common.{ℕ}

-- the most turns of an analysis
abbrev pub most_turns : ℕ
most_turns = 1000000
