-- Runs of a concrete system.
--   GoesOn system run k n c   the run goes on from the point of moment k, or is over there
--   IsRun system run          a run: its point at each moment, and None once it is over
--   with_node point past      the nodes of a run with that of one more moment, if there is one
--   trace_to run k            the nodes of its first k moments, the newest first
use Rattle.std.specs.Prelude.{◌≡◌, ℕ, zero, suc, List, [], ◌∷◌, Option, Some, None, ◌⊎◌}
use Rattle.alf_ops.specs.declared.history.RunFault.{RunFault}
use Rattle.domain_core.specs.Machines.{System}

-- the run goes on from the point of moment k, or is over there
abbrev pub GoesOn : {C : Type 0} → System C → (ℕ → Option (ℕ × C)) → ℕ → ℕ → C → Type 0
GoesOn {C} system run k n c =
    ((j : ℕ) × (d : C) × system.goes n c j d × (run (suc k) ≡ Some (j, d))) ⊎ ((system.ends n c ⊎ ((kind : RunFault) × system.fails n c kind)) × (run (suc k) ≡ None))

-- a run: its point at each moment, and None once it is over
pub record IsRun {C : Type 0} (system : System C) (run : ℕ → Option (ℕ × C)) : Type 0 where
  pub first : (c : C) × (run 0 ≡ Some (0, c)) × system.starts c
  pub on : (k n : ℕ) (c : C) → run k ≡ Some (n, c) → GoesOn system run k n c

-- the nodes of a run with that of one more moment, if there is one
abbrev pub with_node : {C : Type 0} → Option (ℕ × C) → List ℕ → List ℕ
with_node None past = past
with_node (Some point) past = point.0 ∷ past

-- the nodes of the first k moments of a run, the newest first
abbrev pub trace_to : {C : Type 0} → (ℕ → Option (ℕ × C)) → ℕ → List ℕ
trace_to run zero = []
trace_to run (suc k) = with_node (run k) (trace_to run k)
