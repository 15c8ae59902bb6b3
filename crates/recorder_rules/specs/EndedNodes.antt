-- The nodes of iterations that end with a step.
--   after_each   what several scopes add
use Rattle.std.proofs.Common.{◌||◌, ℕ, Bool, List, [], ◌∷◌}
use Rattle.domain_core.specs.Outlines.{Shape, IsOutline}

-- what several scopes add
abbrev pub after_each : (ℕ → Bool) → Bool → List ℕ → Bool
after_each adds v [] = v
after_each adds v (s ∷ ss) = after_each adds (v || adds s) ss
