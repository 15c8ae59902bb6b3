-- Traces as a run makes them: lists of nodes, the newest first.
--   IsTrace o past   the nodes of a walk of the outline from node 0
use Rattle.std.specs.Prelude.{◌≡◌, ◌<◌, ℕ, List, [], ◌∷◌, length}
use Rattle.domain_core.specs.Reducible.{IsEdge}
use Rattle.domain_core.specs.Outlines.{Shape}

-- the nodes of a walk of the outline from node 0
abbrev pub IsTrace : Shape → List ℕ → Type 0
IsTrace o [] = ⊥
IsTrace o (n ∷ []) = n ≡ 0
IsTrace o (n ∷ m ∷ past) = IsEdge o.edges m n × (n < length o.own) × IsTrace o (m ∷ past)
