-- How many bytes the frames of a lowered program have.
--   bytes_in frames       the bytes of all of them
--   IsLight frames n      four bytes for each frame and for each of n elements are enough
use Rattle.std.proofs.Common.{◌≤◌, ◌+◌, ◌*◌, ℕ, List, [], ◌∷◌, length}
use Rattle.alf_program.specs.Tree.{Allocation}
use Rattle.alf_program.specs.Writable.{frame_bytes}
use Rattle.c_unit.specs.Units.{UnitTree}

abbrev pub bytes_in : List Allocation → ℕ
bytes_in [] = 0
bytes_in (a ∷ as_they_are) = frame_bytes a + bytes_in as_they_are

-- four bytes for each frame and for each element are enough
abbrev pub IsLight : List Allocation → ℕ → Type 0
IsLight frames n = bytes_in frames ≤ 4 * length frames + 4 * n
