-- Loads and stores through an address with one member, in a sharp memory.
--   cells_told             the cell that an address of a run means, if it has no fault
use Rattle.std.proofs.Common.{ℕ, List, [], ◌∷◌, Result, Ok, Err}
use Rattle.alf_ops.specs.declared.history.RunFault.{RunFault}

-- ---- one cell

-- the cell that an address of a run means, if it has no fault
abbrev pub cells_told : Result (ℕ × ℕ) RunFault → List (ℕ × ℕ)
cells_told (Ok cell) = cell ∷ []
cells_told (Err fault) = []
