-- Two memories of one program, and cells that are there.
--   AreReady count a b     the same functions run in both, of which the program has so many
use Rattle.std.proofs.Common.{◌≡◌, ℕ}
use Rattle.memory_model.specs.KeptMemories.{MemoryParts, functions_of}
use Rattle.memory_model.specs.SeenOrders.{AreAlike}

-- the same functions run in both, of which the program has so many
pub record AreReady (count : ℕ) (a b : MemoryParts) : Type 0 where
  pub alike : AreAlike a b
  pub functions : count ≡ functions_of a.checked
