-- The first fault among entries.
--   Judging          when an entry is right, and what is wrong with one, by its number and the entries before it
--   AllRight judging entries            each entry is right
--   IsFirstFault judging entries fault  the fault is one of an entry, and the entries before it are right
-- What an entry must have: what its keys tell, if it has its keys; that the numbers in it are in range; and that what
-- it names is there.
--   IsRightEntry told InRange IsThere datum           it has all of these
--   IsWrongEntry told InRange IsThere k datum fault   the fault of entry k is that of the first that it has not
use Rattle.std.specs.Prelude.{◌≡◌, ◌<◌, ℕ, List, Option, Some, None, slice_get, take}
use Rattle.toml.specs.Data.{Data}
use Rattle.cost_table.specs.declared.fault.TableFault.{TableFault}
use Rattle.cost_table.specs.declared.fault.TableFault.TheVariants as faults

-- when entry k is right, and what is wrong with it, where the entries before it are these
pub record Judging : Type 1 where
  pub Right : List Data → ℕ → Data → Type 0
  pub Wrong : List Data → ℕ → Data → TableFault → Type 0

-- each of the first entries is right
abbrev pub RightBelow : Judging → List Data → ℕ → Type 0
RightBelow judging entries n = (k : ℕ) (datum : Data) → k < n → slice_get entries k ≡ Some datum → judging.Right (take k entries) k datum

-- each entry is right
abbrev pub AllRight : Judging → List Data → Type 0
AllRight judging entries = (k : ℕ) (datum : Data) → slice_get entries k ≡ Some datum → judging.Right (take k entries) k datum

-- it is a fault of an entry, and the entries before it are right
pub record IsFirstFault (judging : Judging) (entries : List Data) (fault : TableFault) : Type 0 where
  pub place : ℕ
  pub datum : Data
  pub stands : slice_get entries place ≡ Some datum
  pub before : RightBelow judging entries place
  pub wrong : judging.Wrong (take place entries) place datum fault

-- ---- what an entry must have

-- it has its keys, its numbers are in range, and what it names is there
pub record IsRightEntry {E : Type 0} (told : Data → Option E) (InRange IsThere : E → Type 0)
    (datum : Data) : Type 0 where
  pub entry : E
  pub has_keys : told datum ≡ Some entry
  pub in_range : InRange entry
  pub there : IsThere entry

-- it has its keys, and a number is out of range
pub record IsOutOfRange {E : Type 0} (told : Data → Option E) (InRange : E → Type 0) (datum : Data) : Type 0 where
  pub entry : E
  pub has_keys : told datum ≡ Some entry
  pub out : ¬ InRange entry

-- it has its keys and its numbers are in range, and what it names is not there
pub record NamesNothing {E : Type 0} (told : Data → Option E) (InRange IsThere : E → Type 0)
    (datum : Data) : Type 0 where
  pub entry : E
  pub has_keys : told datum ≡ Some entry
  pub in_range : InRange entry
  pub lacks : ¬ IsThere entry

-- what is wrong with entry k, in the order of tests
abbrev pub IsWrongEntry : {E : Type 0} → (Data → Option E) → (E → Type 0) → (E → Type 0) → ℕ → Data → TableFault
    → Type 0
IsWrongEntry told InRange IsThere k datum (faults.Key place) = (place ≡ Some k) × (told datum ≡ None)
IsWrongEntry told InRange IsThere k datum (faults.Range place) = (place ≡ k) × IsOutOfRange told InRange datum
IsWrongEntry told InRange IsThere k datum (faults.NoSuchCell place) = (place ≡ k) × NamesNothing told InRange IsThere datum
IsWrongEntry told InRange IsThere k datum faults.Toml = ⊥
IsWrongEntry told InRange IsThere k datum (faults.Limit which count) = ⊥
IsWrongEntry told InRange IsThere k datum faults.Memory = ⊥
