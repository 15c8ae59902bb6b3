-- The bits of words after a step.
use Rattle.std.proofs.Common.{◌≤◌, ◌==◌, ◌&&◌, ℕ, Bool, ltb}
use Rattle.domain_core.specs.Outlines.{Shape}
use Rattle.recorder_rules.specs.LoopRules.{own_of}

-- ---- the nodes of each scope, one node after the other

-- the nodes before one
abbrev pub owned_before : Shape → ℕ → ℕ → ℕ → Bool
owned_before o node t a = (own_of o a == t) && ltb a node
