-- Laws of words.
--   ReadsTwosComplement    a word is the remainder of its signed reading, which lies in the signed range
--   IsRead                 a number of the signed range is the reading of its word
--   ReadsByHighestBit      a word from half of its range on is below 0, at the distance that is left of the range
--   BelowItsSize           the value of an operator is below 2 to the size of its result
--   IsQuotient x y q       q is x divided by y, truncated toward zero
--   TruncatesTowardZero    so is the quotient of s_div, and s_mod gives what it leaves
--   bit_of place word      the bit at a place of a word
--   MovesRound             a rotation moves the bit at a place by b places, modulo the size
--   LesserAndGreater       the lesser and the greater of two words, unsigned and signed
--   SelectsBytes           a byte of a word is what select gives of it
--   ConcatenatesWords      conc puts one word above another
use Rattle.std.specs.Prelude.{◌≡◌, ℕ, ℤ, List, pos, neg_ℤ, ◌+◌, ◌-◌, ◌*◌, ◌/◌, ◌%◌, ◌^◌, ◌<◌, ◌≤◌, ◌-ℤ◌, ◌*ℤ◌, ◌≤ℤ◌, ◌<ℤ◌, true, false, unsigned_abs, [], ◌∷◌}
use Rattle.alf_ops.specs.declared.operator.Op.{Op}
use Rattle.alf_ops.specs.declared.operator.Op.TheVariants.{SDiv, SMod, Select, Conc, RotL, RotR, UMin, UMax, SMin, SMax}
use Rattle.alf_ops.specs.Table.{size_of_result}
use Rattle.alf_ops.specs.TwosComplement.{word, signed, is_negative, distance}
use Rattle.alf_ops.specs.Words.{value}
use Rattle.alf_ops.specs.Histories.{byte_of}

-- a word is the remainder of its signed reading, which lies in the signed range
abbrev pub ReadsTwosComplement : Type 0
ReadsTwosComplement = (size a : ℕ)
    → 1 ≤ size
    → a < 2 ^ size
    → (word size (signed size a) ≡ a)
    × (neg_ℤ (pos (2 ^ (size - 1))) ≤ℤ signed size a)
    × (signed size a <ℤ pos (2 ^ (size - 1)))

-- a number of the signed range is the reading of its word
abbrev pub IsRead : Type 0
IsRead = (size : ℕ) (z : ℤ)
    → 1 ≤ size
    → neg_ℤ (pos (2 ^ (size - 1))) ≤ℤ z
    → z <ℤ pos (2 ^ (size - 1))
    → signed size (word size z) ≡ z

-- a word from half of its range on is below 0, at the distance that is left of the range, and any other is itself
abbrev pub ReadsByHighestBit : Type 0
ReadsByHighestBit = (size a : ℕ)
    → a < 2 ^ size
    → (2 ^ (size - 1) ≤ a → (is_negative size a ≡ true) × (distance size a ≡ 2 ^ size - a))
    × (a < 2 ^ (size - 1) → (is_negative size a ≡ false) × (distance size a ≡ a))

-- the value of an operator is below 2 to the size of its result
abbrev pub BelowItsSize : Type 0
BelowItsSize = (op : Op) (sizes args : List ℕ) → value op sizes args < 2 ^ size_of_result op sizes

-- q times y is no further from 0 than x, and what is left is nearer to 0 than y
pub record IsQuotient (x y q : ℤ) : Type 0 where
  pub toward_zero : unsigned_abs (y *ℤ q) ≤ unsigned_abs x
  pub nearest : unsigned_abs (x -ℤ (y *ℤ q)) < unsigned_abs y

-- the quotient of s_div is truncated toward zero, and s_mod gives what it leaves
abbrev pub TruncatesTowardZero : Type 0
TruncatesTowardZero = (m n a b : ℕ)
    → 0 < b
    → b < 2 ^ n
    → (q : ℤ) × IsQuotient (signed m a) (signed n b) q
    × (value SDiv (m ∷ n ∷ []) (a ∷ b ∷ []) ≡ word m q)
    × (value SMod (m ∷ n ∷ []) (a ∷ b ∷ []) ≡ word n (signed m a -ℤ (signed n b *ℤ q)))

-- the bit at a place of a word
abbrev pub bit_of : ℕ → ℕ → ℕ
bit_of place word = word / 2 ^ place % 2

-- a rotation moves the bit at a place by b places up or down, modulo the size
abbrev pub MovesRound : Type 0
MovesRound = (size n a b place : ℕ)
    → 1 ≤ size
    → a < 2 ^ size
    → place < size
    → (bit_of ((place + b) % size) (value RotL (size ∷ n ∷ []) (a ∷ b ∷ [])) ≡ bit_of place a)
    × (bit_of place (value RotR (size ∷ n ∷ []) (a ∷ b ∷ [])) ≡ bit_of ((place + b) % size) a)

-- of two words that are unequal or not, in either order: the one that is no greater, and the one that is no less
pub record Splits (low high : Op) (size a b : ℕ) : Type 0 where
  pub lesser : value low (size ∷ []) (a ∷ b ∷ []) ≡ a
  pub lesser_reversed : value low (size ∷ []) (b ∷ a ∷ []) ≡ a
  pub greater : value high (size ∷ []) (a ∷ b ∷ []) ≡ b
  pub greater_reversed : value high (size ∷ []) (b ∷ a ∷ []) ≡ b

-- the lesser and the greater of two words, unsigned and signed
abbrev pub LesserAndGreater : Type 0
LesserAndGreater = (size a b : ℕ)
    → 1 ≤ size
    → a < 2 ^ size
    → b < 2 ^ size
    → (a ≤ b → Splits UMin UMax size a b)
    × (signed size a ≤ℤ signed size b → Splits SMin SMax size a b)

-- a byte of a word is what select gives of it
abbrev pub SelectsBytes : Type 0
SelectsBytes = (size a place : ℕ) → value Select (size ∷ 8 * place ∷ (8 * place + 7) ∷ []) (a ∷ []) ≡ byte_of place a

-- conc puts one word above another
abbrev pub ConcatenatesWords : Type 0
ConcatenatesWords = (m n a b : ℕ)
    → a < 2 ^ m
    → b < 2 ^ n
    → value Conc (m ∷ n ∷ []) (a ∷ b ∷ []) ≡ a * 2 ^ n + b
