-- The numbers that have a key, from one to the next.
--   IsNext keys k from j    j is the least number from `from` on with the key k, or the length of the list where none has it
--   KeysBelow keys n        all keys are below n
--   IsChainedFrom keys i first next   from the number i on: the first number of each key, and after each number the next of its key
--   IsChained keys first next         all numbers
--   linked_first, linked_next         the number i put before the others of its key
use Rattle.std.specs.Prelude.{◌≡◌, ◌<◌, ◌≤◌, ◌+◌, ℕ, List, Option, None, Some, true, false, length, slice_index, slice_set}
use Rattle.recorder_rules.specs.TallyRules.{key_at, is_at}

-- the least number from one on that has the key, or the length
pub record IsNext (keys : List (Option ℕ)) (k start j : ℕ) : Type 0 where
  pub least : start ≤ j
  pub most : j ≤ length keys
  pub has : j < length keys → is_at (key_at keys j) k ≡ true
  pub none : (x : ℕ) → start ≤ x → x < j → is_at (key_at keys x) k ≡ false

-- all keys are below n
abbrev pub KeysBelow : List (Option ℕ) → ℕ → Type 0
KeysBelow keys n = (i k : ℕ) → key_at keys i ≡ Some k → k < n

-- from the number i on
pub record IsChainedFrom (keys : List (Option ℕ)) (i : ℕ) (first next : List ℕ) : Type 0 where
  pub firsts : (k : ℕ) → k < length first → IsNext keys k i (slice_index first k)
  pub nexts : (j k : ℕ) → i ≤ j → j < length keys → is_at (key_at keys j) k ≡ true
      → IsNext keys k (j + 1) (slice_index next j)

-- all numbers
pub record IsChained (keys : List (Option ℕ)) (first next : List ℕ) : Type 0 where
  pub same_length : length next ≡ length keys
  pub below : KeysBelow keys (length first)
  pub chained : IsChainedFrom keys 0 first next

-- the number i put before the others of its key
abbrev pub linked_first : List ℕ → ℕ → Option ℕ → List ℕ
linked_first first i None = first
linked_first first i (Some k) = slice_set first k i

abbrev pub linked_next : List ℕ → List ℕ → ℕ → Option ℕ → List ℕ
linked_next first next i None = next
linked_next first next i (Some k) = slice_set next i (slice_index first k)
