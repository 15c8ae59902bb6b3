-- Bits in words of 64.
--   words_for n              the words that hold n bits
--   is_set word i            the bit i of a word
--   is_marked words base b   the bit b of those that begin at the word `base`
--   in_range start n i       the place is one of n from the start on
--   AreInRange start n f old new   the words of a range have new values
--   IsNextMark marks start j   j is the least marked place from the start on, or past the end
--   AreRows count width marks f old new   the words of the marked rows have new values, and IsRowwise before a place
--   AreOwned o scopes count width words   each node is marked in the row of its own scope
use Rattle.std.specs.Prelude.{◌≡◌, ◌+◌, ◌*◌, ◌/◌, ◌%◌, ◌<◌, ◌≤◌, ℕ, List, Bool, true, false, ◌&&◌, ◌==◌, length, slice_index, if◌then◌else◌, leb, ltb}
use Rattle.std.specs.Int.{bit_at}
use Rattle.domain_core.specs.Outlines.{Shape}
use Rattle.recorder_rules.specs.LoopRules.{own_of}

-- the words that hold n bits
abbrev pub words_for : ℕ → ℕ
words_for n = (n + 63) / 64

-- the bit i of a word
abbrev pub is_set : ℕ → ℕ → Bool
is_set word i = bit_at word i == 1

-- the bit b of those that begin at a word
abbrev pub is_marked : List ℕ → ℕ → ℕ → Bool
is_marked words base b = is_set (slice_index words (base + b / 64)) (b % 64)

-- the place is one of n from the start on
abbrev pub in_range : ℕ → ℕ → ℕ → Bool
in_range start n i = leb start i && ltb i (start + n)

-- the words of a range have new values, and all others are as they were
abbrev pub AreInRange : ℕ → ℕ → (ℕ → ℕ) → List ℕ → List ℕ → Type 0
AreInRange start n f old new = (i : ℕ) → slice_index new i ≡ (if in_range start n i then f i else slice_index old i)

-- the least marked place from the start on, or past the end
pub record IsNextMark (marks : List ℕ) (start j : ℕ) : Type 0 where
  pub least : start ≤ j
  pub has : j < 64 * length marks → is_marked marks 0 j ≡ true
  pub none : (x : ℕ) → start ≤ x → x < j → is_marked marks 0 x ≡ false

-- the words of the marked rows have new values, and those of all others are as they were
abbrev pub AreRows : ℕ → ℕ → List ℕ → (ℕ → ℕ) → List ℕ → List ℕ → Type 0
AreRows count width marks f old new = (a q : ℕ) → a < count → q < width → slice_index new (a * width + q) ≡ (if is_marked marks 0 a then f (a * width + q) else slice_index old (a * width + q))

-- so for the rows before a place
pub record IsRowwise (count width : ℕ) (marks : List ℕ) (f : ℕ → ℕ) (old new : List ℕ) (place : ℕ) : Type 0 where
  pub done : (a q : ℕ) → a < place → a < count → q < width → slice_index new (a * width + q) ≡ (if is_marked marks 0 a then f (a * width + q) else slice_index old (a * width + q))
  pub rest : (a q : ℕ) → place ≤ a → q < width → slice_index new (a * width + q) ≡ slice_index old (a * width + q)
  pub here : place < count → is_marked marks 0 place ≡ true

-- bit b of row a is set exactly where the nodes' own scope is that of the row
abbrev pub AreOwned : Shape → ℕ → ℕ → ℕ → List ℕ → Type 0
AreOwned o scopes count width words = (t a : ℕ) → t < scopes → a < count → is_marked words (t * width) a ≡ (own_of o a == t)
