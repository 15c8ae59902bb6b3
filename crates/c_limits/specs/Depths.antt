-- What rules of expressions spell is no deeper than they allow.
use Rattle.std.proofs.Common.{◌≤◌, ℕ, List}
use Rattle.c_unit.specs.Tree.{Expression}
use Rattle.c_unit.specs.Measures.{depth_of}
use Rattle.c_unit.specs.Units.{Word}

-- ---- depths

module _ (words : List Word) where
  abbrev pub Within : ℕ → Expression → Type 0
  Within d e = depth_of e ≤ d
