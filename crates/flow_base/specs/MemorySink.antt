-- A sink in memory whose writes fail as they are told to.
--   HeldSink                                what contracts see of it
--   seen_sink sink                          what each sink is seen as: it tells everything
--   prefix_before_fault failing call        how many bytes the write of this number takes before it fails, if it is to fail
--   TakesPrefix result old new bytes count  the write failed and took so many bytes, or found no memory
use Rattle.std.specs.Prelude.{◌≡◌, ◌==◌, ℕ, List, [], ◌∷◌, ◌++◌, take, Option, None, Some, Result, Ok, Err, if◌then◌else◌}
use Rattle.flow_base.specs.Sinks.{SinkState}
use Rattle.flow_base.specs.declared.sink.WriteError.{WriteError}
use Rattle.flow_base.specs.declared.sink.WriteError.TheVariants.{Failed, Memory}

pub record HeldSink : Type 0 where
  pub taken : List ℕ
  -- the writes that are to fail: the number of each, from 0, and how many bytes it takes first
  pub failing : List (ℕ × ℕ)
  pub writes : ℕ
  pub faults : ℕ

-- it tells everything
abbrev pub seen_sink : HeldSink → SinkState
seen_sink sink = record { taken = Some sink.taken; writes = sink.writes; faults = sink.faults }

-- how many bytes the write of this number takes before it fails; of equal numbers the first counts
abbrev pub prefix_before_fault : List (ℕ × ℕ) → ℕ → Option ℕ
prefix_before_fault [] call = None
prefix_before_fault (entry ∷ entries) call = if entry.0 == call then Some entry.1 else prefix_before_fault entries call

-- the write failed after so many bytes, at most all, or found no memory
abbrev pub TakesPrefix : Result (Unit {0}) WriteError → List ℕ → List ℕ → List ℕ → ℕ → Type 0
TakesPrefix (Ok done) old new bytes count = ⊥
TakesPrefix (Err Failed) old new bytes count = new ≡ old ++ take count bytes
TakesPrefix (Err Memory) old new bytes count = Unit {0}
