-- A walk along the numbers that have a key, which changes each of them.
--   IsWalked keys k f d old now i    below i each number with the key has its new value, and all others are as they were
--   AreChanged keys k f d old now    all numbers with the key have theirs
--   HasWide keys p spans             the least count of a number whose key passes the test takes more than a byte
use Rattle.std.specs.Prelude.{◌≡◌, ◌<◌, ◌≤◌, ℕ, List, Option, Bool, true, length, slice_index_or, SomeIndex, if◌then◌else◌}
use Rattle.recorder_rules.specs.TotalRules.{span_at}
use Rattle.recorder_rules.specs.TallyRules.{key_at, is_at}

pub record IsWalked {A : Type 0} (keys : List (Option ℕ)) (k : ℕ) (f : ℕ → A) (d : A) (old new : List A)
    (i : ℕ) : Type 0 where
  pub same_length : length new ≡ length old
  pub done : (j : ℕ) → j < i → j < length old
      → slice_index_or new j d ≡ (if is_at (key_at keys j) k then f j else slice_index_or old j d)
  pub rest : (j : ℕ) → i ≤ j → slice_index_or new j d ≡ slice_index_or old j d
  pub here : i < length old → is_at (key_at keys i) k ≡ true

abbrev pub AreChanged : {A : Type 0} → List (Option ℕ) → ℕ → (ℕ → A) → A → List A → List A → Type 0
AreChanged keys k f d old new = (j : ℕ) → j < length old → slice_index_or new j d ≡ (if is_at (key_at keys j) k then f j else slice_index_or old j d)

-- the least count of a number whose key passes the test takes more than a byte
abbrev pub HasWide : List (Option ℕ) → (Option ℕ → Bool) → List (ℕ × ℕ) → Type 0
HasWide keys p spans = SomeIndex spans (λ j. (p (key_at keys j) ≡ true) × (255 < (span_at spans j).0))
