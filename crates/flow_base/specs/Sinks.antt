-- What a sink is seen as, and what a write does to it.
--   SinkState                            the bytes that it took, the writes, the faults
--   Appended before now bytes            where the bytes are told, these are now at their end
--   AppendedPrefix before now bytes      the same of some prefix of these bytes
--   IsWritten bytes before result after  a write of these bytes answers so, and leaves the sink so
use Rattle.std.specs.Prelude.{◌≡◌, ℕ, List, ◌++◌, Option, option_map, Result, Ok, Err}
use Rattle.flow_base.specs.Outside.{Rose}
use Rattle.flow_base.specs.declared.sink.WriteError.{WriteError}
use Rattle.flow_base.specs.declared.sink.WriteError.TheVariants.{Failed, Memory}

pub record SinkState : Type 0 where
  -- the bytes that were taken, where they are told
  pub taken : Option (List ℕ)
  -- how often bytes were to be written, as far as a count goes
  pub writes : ℕ
  -- how often a write has failed, as far as a count goes
  pub faults : ℕ

-- where the bytes are told, they are now those from before with these at their end; else they are not told
abbrev pub Appended : Option (List ℕ) → Option (List ℕ) → List ℕ → Type 0
Appended before now bytes = now ≡ option_map (λ (held : List ℕ). held ++ bytes) before

-- where the bytes are told, some prefix of these was appended
abbrev pub AppendedPrefix : Option (List ℕ) → Option (List ℕ) → List ℕ → Type 0
AppendedPrefix before now bytes = (prefix rest : List ℕ) × (bytes ≡ prefix ++ rest) × Appended before now prefix

-- what a write answers, and what it leaves
abbrev pub IsWritten : List ℕ → SinkState → Result (Unit {0}) WriteError → SinkState → Type 0
IsWritten bytes before (Ok done) after = Appended before.taken after.taken bytes
IsWritten bytes before (Err Failed) after = AppendedPrefix before.taken after.taken bytes × Rose before.faults after.faults
IsWritten bytes before (Err Memory) after = after.taken ≡ before.taken
