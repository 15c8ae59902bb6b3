-- What a step does to the pairs of one scope's iteration: tests of the node that is entered, and of the iteration
-- before.
--   next_iteration      the iteration after the step
use Rattle.std.proofs.Common.{ℕ, List, [], ◌∷◌, Bool, not, ◌&&◌, if◌then◌else◌}
use Rattle.domain_core.specs.Parts.{further}

-- ---- a step: hk and head say whether the scope holds the node k and has it as its header, hn whether it holds the node before

-- the iteration after the step
abbrev pub next_iteration : Bool → Bool → ℕ → List ℕ → List ℕ
next_iteration hk head k e = if hk && head then k ∷ [] else (if hk && not head then further k e else [])
