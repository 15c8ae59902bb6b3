-- The first least of a list of keys. A key is a list of numbers, and keys are compared as lists.
--   key_at keys i           the key at place i
--   Precedes a b            the key a is less than b
--   IsFirstLeast keys i     the key at i is the first of those than which none is less
--   IsNextSame keys i j     the key at j is the first after that at i which is the same
use Rattle.std.specs.Prelude.{◌≡◌, ◌≢◌, ◌<◌, ℕ, List, [], length, slice_index_or}
use Rattle.std.specs.Ordering.{nat_cmp}
use Rattle.std.specs.Cmp.Lexicographic.{slice_cmp}
use Rattle.std.specs.declared.cmp.Ordering.TheVariants.{Less}

abbrev pub key_at : List (List ℕ) → ℕ → List ℕ
key_at keys i = slice_index_or keys i []

-- the key a is less than b
abbrev pub Precedes : List ℕ → List ℕ → Type 0
Precedes a b = slice_cmp nat_cmp a b ≡ Less

-- no key is less than that at i, and each one before it is greater
pub record IsFirstLeast (keys : List (List ℕ)) (i : ℕ) : Type 0 where
  pub within : i < length keys
  pub least : (j : ℕ) → j < length keys → Precedes (key_at keys j) (key_at keys i) → ⊥
  pub first : (j : ℕ) → j < i → Precedes (key_at keys i) (key_at keys j)

-- the key at j is the first after that at i which is the same
pub record IsNextSame (keys : List (List ℕ)) (i j : ℕ) : Type 0 where
  pub later : i < j
  pub within : j < length keys
  pub same : key_at keys j ≡ key_at keys i
  pub first : (k : ℕ) → i < k → k < j → key_at keys k ≢ key_at keys i
