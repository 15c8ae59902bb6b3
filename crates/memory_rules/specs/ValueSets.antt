-- What a memory needs of the sets of values that it holds.
--   ValueSets                     sets of words of one size, and sets of values, which are words of one size and pointers
--   OnlyHas d word size bits      the word is a member, and no other is
--   OnlyCovers d set value        the value is a member, and no other is
--   HasWords, HasOneWord          the words among the values have this one; it is the only member
--   IsWordOf d word value         the value is one of the words
--   IsValueSets d                 what a memory needs: joins, bytes and concatenations keep members, sizes, and single members
use Rattle.std.specs.Prelude.{◌≡◌, ℕ, Bool, true, false, Option, Some, None, ◌+◌, ◌*◌, ◌≤◌}
use Rattle.alf_ops.specs.declared.history.Value.{Value}
use Rattle.alf_ops.specs.declared.history.Value.TheVariants.{Int, Ptr}
use Rattle.alf_ops.specs.Histories.{byte_of}

pub record ValueSets : Type 1 where
  pub Word : Type 0
  pub Val : Type 0
  -- a word of this size is a member, and a value
  pub has : Word → ℕ → ℕ → Type 0
  pub covers : Val → Value → Type 0
  -- the set is of this size, and as the domain keeps it
  pub sized : Word → ℕ → Type 0
  pub val_sized : Val → ℕ → Type 0
  -- these words and no pointer; the words among the values; some pointer is among them
  pub of_word : Word → Val
  pub word_part : Val → Option Word
  pub has_pointer : Val → Bool
  pub join_words : Word → Word → Word
  pub join : Val → Val → Val
  -- this byte of each word, the lowest bits in byte 0; each word of the first with a byte of the second below it
  pub byte : ℕ → Word → Word
  pub conc : Word → Word → Word

-- the word is a member, and no other is
abbrev pub OnlyHas : (d : ValueSets) → d.Word → ℕ → ℕ → Type 0
OnlyHas d word size bits = d.has word size bits × ((s k : ℕ) → d.has word s k → (s ≡ size) × (k ≡ bits))

-- the value is a member, and no other is
abbrev pub OnlyCovers : (d : ValueSets) → d.Val → Value → Type 0
OnlyCovers d set value = d.covers set value × ((other : Value) → d.covers set other → other ≡ value)

-- the words among the values have this one
pub record HasWords (d : ValueSets) (set : d.Val) (size bits : ℕ) : Type 0 where
  pub word : d.Word
  pub is : d.word_part set ≡ Some word
  pub member : d.has word size bits

-- and it is the only member
pub record HasOneWord (d : ValueSets) (set : d.Val) (size bits : ℕ) : Type 0 where
  pub word : d.Word
  pub is : d.word_part set ≡ Some word
  pub member : OnlyHas d word size bits
  pub no_pointer : d.has_pointer set ≡ false

-- the value is one of the words
pub record IsWordOf (d : ValueSets) (word : d.Word) (value : Value) : Type 0 where
  pub size : ℕ
  pub bits : ℕ
  pub is : value ≡ Int size bits
  pub member : d.has word size bits

pub record IsValueSets (d : ValueSets) : Type 0 where
  -- covering
  pub word_covers : (word : d.Word) (size bits : ℕ) → d.has word size bits → d.covers (d.of_word word) (Int size bits)
  pub covers_word : (word : d.Word) (value : Value) → d.covers (d.of_word word) value → IsWordOf d word value
  pub word_parts : (set : d.Val) (size bits : ℕ) → d.covers set (Int size bits) → HasWords d set size bits
  pub pointer_parts : (set : d.Val) (frame offset : ℕ) → d.covers set (Ptr frame offset) → d.has_pointer set ≡ true
  pub joined_words_left : (a b : d.Word) (size bits : ℕ) → d.sized a size → d.sized b size → d.has a size bits
      → d.has (d.join_words a b) size bits
  pub joined_words_right : (a b : d.Word) (size bits : ℕ) → d.sized a size → d.sized b size → d.has b size bits
      → d.has (d.join_words a b) size bits
  pub joined_left : (a b : d.Val) (size : ℕ) (value : Value) → d.val_sized a size → d.val_sized b size
      → d.covers a value → d.covers (d.join a b) value
  pub joined_right : (a b : d.Val) (size : ℕ) (value : Value) → d.val_sized a size → d.val_sized b size
      → d.covers b value → d.covers (d.join a b) value
  pub byte_has : (word : d.Word) (size bits place : ℕ) → 8 * place + 8 ≤ size → d.sized word size → d.has word size bits
      → d.has (d.byte place word) 8 (byte_of place bits)
  pub conc_has : (a b : d.Word) (size x y : ℕ) → size + 8 ≤ 64 → d.sized a size → d.sized b 8 → d.has a size x
      → d.has b 8 y
      → d.has (d.conc a b) (size + 8) (x * 256 + y)
  -- sizes
  pub byte_sized : (word : d.Word) (size place : ℕ) → 8 * place + 8 ≤ size → d.sized word size
      → d.sized (d.byte place word) 8
  pub conc_sized : (a b : d.Word) (size : ℕ) → size + 8 ≤ 64 → d.sized a size → d.sized b 8
      → d.sized (d.conc a b) (size + 8)
  pub of_word_sized : (word : d.Word) (size : ℕ) → d.sized word size → d.val_sized (d.of_word word) size
  pub word_part_sized : (set : d.Val) (size : ℕ) (word : d.Word) → d.val_sized set size → d.word_part set ≡ Some word
      → d.sized word size
  pub joined_words_sized : (a b : d.Word) (size : ℕ) → d.sized a size → d.sized b size → d.sized (d.join_words a b) size
  pub joined_sized : (a b : d.Val) (size : ℕ) → d.val_sized a size → d.val_sized b size → d.val_sized (d.join a b) size
  -- sharpness
  pub byte_only : (word : d.Word) (size bits place : ℕ) → 8 * place + 8 ≤ size → d.sized word size
      → OnlyHas d word size bits
      → OnlyHas d (d.byte place word) 8 (byte_of place bits)
  pub conc_only : (a b : d.Word) (size x y : ℕ) → size + 8 ≤ 64 → d.sized a size → d.sized b 8 → OnlyHas d a size x
      → OnlyHas d b 8 y
      → OnlyHas d (d.conc a b) (size + 8) (x * 256 + y)
  pub only_word : (set : d.Val) (own size bits : ℕ) → d.val_sized set own → OnlyCovers d set (Int size bits)
      → HasOneWord d set size bits
  pub only_pointer : (set : d.Val) (own frame offset : ℕ) → d.val_sized set own → OnlyCovers d set (Ptr frame offset)
      → (d.word_part set ≡ None) × (d.has_pointer set ≡ true)
  pub joined_only : (a b : d.Val) (size : ℕ) (value : Value) → d.val_sized a size → d.val_sized b size
      → OnlyCovers d a value → OnlyCovers d b value
      → OnlyCovers d (d.join a b) value
