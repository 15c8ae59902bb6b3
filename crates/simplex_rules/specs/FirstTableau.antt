-- The first tableau is sound: each slack is 1 in its own line and 0 in every other.
use Rattle.std.proofs.Common.{◌≡◌, ℕ, pos, suc, ◌<◌, ◌≤◌, List, [], ◌∷◌}
use Rattle.ipet_rows.specs.Sums.{coefficient}
use Rattle.ipet_rows.specs.Programs.{IsWithin}
use Rattle.simplex_rules.specs.Tableaus.{Generator}

-- Generators with marks of their own.

-- 1 at the mark, 0 at each other slack, and no scale
pub record IsOwn (n w : ℕ) (g : Generator) : Type 0 where
  pub own : coefficient g.1 g.0 ≡ pos 1
  pub others : (j : ℕ) → n ≤ j → (j ≡ g.0 → ⊥) → coefficient g.1 j ≡ pos 0
  pub flat : coefficient g.1 1 ≡ pos 0
  pub within : IsWithin w g.1
  pub most : g.0 < w

-- marks from s on, rising
abbrev pub AreMarked : ℕ → ℕ → ℕ → List Generator → Type 0
AreMarked n w s [] = Unit {0}
AreMarked n w s (g ∷ gs) = (s ≤ g.0) × IsOwn n w g × AreMarked n w (suc g.0) gs
