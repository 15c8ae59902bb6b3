-- The results from bytes, where each byte covers what it comes from.
--   Member, OnlyMember d word size bits     the set is of this size and has the word, or it alone
--   Concatenates d H bytes size bits        the values of the bytes, concatenated, are in the relation H to this word
use Rattle.std.proofs.Common.{◌≡◌, ℕ, List, Option, Some, None}
use Rattle.memory_rules.specs.ValueSets.{ValueSets, OnlyHas}
use Rattle.memory_rules.specs.Frames.{AbstractByte, values_in, concatenated}

-- a member of a set of this size, and the only one
abbrev pub Member : (d : ValueSets) → d.Word → ℕ → ℕ → Type 0
Member d word size bits = d.sized word size × d.has word size bits

abbrev pub OnlyMember : (d : ValueSets) → d.Word → ℕ → ℕ → Type 0
OnlyMember d word size bits = d.sized word size × OnlyHas d word size bits

-- the words of bytes, concatenated, are in this relation to the word of the bytes
abbrev pub Holds : (d : ValueSets) → (d.Word → ℕ → ℕ → Type 0) → Option d.Word → ℕ → ℕ → Type 0
Holds d H None size bits = (size ≡ 0) × (bits ≡ 0)
Holds d H (Some word) size bits = H word size bits

pub record Concatenates (d : ValueSets) (H : d.Word → ℕ → ℕ → Type 0) (bytes : List (AbstractByte d.Word))
    (size bits : ℕ) : Type 0 where
  pub words : List d.Word
  pub are : values_in bytes ≡ Some words
  pub hold : Holds d H (concatenated d words) size bits
