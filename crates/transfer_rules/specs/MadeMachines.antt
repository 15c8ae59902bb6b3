-- A machine over values that are made of those of another machine.
--   by_made value made Own Inside m   the machine: value sees a value, made makes one of the stepper's own, which Own tells;
--       it speaks of concrete values inside alone
--   IsMade                            what making keeps
use Rattle.std.specs.Prelude.{Contains}
use Rattle.std.proofs.Common.{◌≡◌, ◌≢◌, ℕ, map}
use Rattle.domain_core.specs.Machines.{Machine}

-- a point with the made value
abbrev pub made_at : {V T : Type 0} → (T → V) → ℕ × T → ℕ × V
made_at made point = (point.0, made point.1)

-- the machine over the values that are made
abbrev pub by_made : {V T C : Type 0} → (V → T) → (T → V) → (V → Type 0) → (C → Type 0) → Machine T C → Machine V C
by_made value made Own Inside m = record {
  kept = m.kept;
  system = m.system;
  covers = λ v c. m.covers (value v) c × Inside c;
  sharp = λ v c. m.sharp (value v) c × Inside c;
  fits = λ n v. Own v × m.fits n (value v);
  first = made m.first;
  next = λ n v. map (made_at made) (m.next n (value v));
  faults = λ n v. m.faults n (value v);
  exit = m.exit;
}

-- what making keeps of values that fit a node
pub record IsMade {V T C : Type 0} (value : V → T) (made : T → V) (Own : V → Type 0) (Inside : C → Type 0)
    (m : Machine T C) : Type 0 where
  pub own : (n : ℕ) (t : T) → m.fits n t → Own (made t)
  pub fits : (n : ℕ) (t : T) → m.fits n t → m.fits n (value (made t))
  pub covers : (n : ℕ) (t : T) (c : C) → m.fits n t → Inside c → m.covers t c → m.covers (value (made t)) c
  pub sharp : (n : ℕ) (t : T) (c : C) → m.fits n t → Inside c → m.sharp t c → m.sharp (value (made t)) c
  -- the points of runs lie inside, before the end of runs
  pub starts : (c : C) → m.system.starts c → Inside c
  pub goes : (n k : ℕ) (u : T) (c d : C) → m.system.goes n c k d → Inside c → m.covers u d → Inside d
  pub inner : (n k : ℕ) (c d : C) → m.system.goes n c k d → k ≢ m.exit

module _ {V T C : Type 0} (value : V → T) (made : T → V) (Own : V → Type 0) (Inside : C → Type 0) (m : Machine T C) where
  -- a next point is made of one
  pub record MadeOf (n k : ℕ) (v u : V) : Type 0 where
    pub from : T
    pub among : Contains (m.next n (value v)) (k, from)
    pub is : made from ≡ u
