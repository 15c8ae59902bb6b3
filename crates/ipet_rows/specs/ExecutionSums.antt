-- Executions of a scope along a run, counted.
--   number_of es         how many there are
--   places_in n es       how often they have the node
use Rattle.std.proofs.Common.{◌≢◌, ◌<◌, ℕ, ℤ, pos, List, [], ◌∷◌}
use Rattle.std.specs.Prelude.{◌+ℤ◌}
use Rattle.domain_core.specs.Outlines.{Shape, IsOutline}
use Rattle.domain_core.specs.Executions.{IsExecution}
use Rattle.flow_facts.specs.Facts.{places}

-- how many there are
abbrev pub number_of : List (List ℕ) → ℤ
number_of [] = pos 0
number_of (e ∷ es) = pos 1 +ℤ number_of es

-- how often they have the node
abbrev pub places_in : ℕ → List (List ℕ) → ℤ
places_in n [] = pos 0
places_in n (e ∷ es) = pos (places n e) +ℤ places_in n es
