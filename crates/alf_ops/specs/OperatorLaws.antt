-- What the operators of words compute, in the words of arithmetic.
--   ChoosesByBit          1 gives the first operand of a choice, 0 the second
--   AddsWithCarry         a sum and its carry, which counts 2 to the size, are the numbers added up
--   SubtractsWithBorrow   what is subtracted gives the first number back; no carry is a borrow, where more is subtracted than is there
--   Negates               a word and its negative add up to nothing, a word and its complement to the greatest word
--   MultipliesInFull      a product is as large as both factors together, so nothing is cut
--   MultipliesReadings    a signed product, worked out
--   DividesWords          quotient times divisor, and the rest, which is less than the divisor, give the number back
--   ShiftsUp              a shift to higher places multiplies by a power of 2, and cuts
--   RoundsDown            a shift to lower places divides by a power of 2, and rounds down; so does the signed one, below 0 too
--   IsBelow, IsLevel      what four orders say of two words of which one is less, and of a word and itself
--   OrdersWords           the unsigned orders are those of the numbers, the signed ones those of the readings
--   TellsEqual            two words are equal or not
--   KeepsReading          a sign extension keeps the signed reading, a zero extension the word, a truncation the lowest bits
--   TakesBitsOfBoth       bits of both, of either and of just one of two words, worked out
use Rattle.std.specs.Prelude.{◌≡◌, ◌≢◌, ℕ, List, pos, ◌+◌, ◌-◌, ◌*◌, ◌%◌, ◌^◌, ◌<◌, ◌≤◌, ◌*ℤ◌, ◌+ℤ◌, ◌≤ℤ◌, ◌<ℤ◌, [], ◌∷◌}
use Rattle.alf_ops.specs.declared.operator.Op.{Op}
use Rattle.alf_ops.specs.declared.operator.Op.TheVariants.{Neg, Not, Add, Sub, CAdd, CSub, UMul, SMul, UDiv, UMod, LShift, RShift, RShiftA, And, Or, Xor, Eq, Neq, ULt, ULe, UGt, UGe, SLt, SLe, SGt, SGe, SExt, ZExt, Trunc, If}
use Rattle.alf_ops.specs.TwosComplement.{signed}
use Rattle.alf_ops.specs.Words.{value}

-- what an operator of one size gives of two words
abbrev pub of_two : Op → ℕ → ℕ → ℕ → ℕ
of_two op size a b = value op (size ∷ []) (a ∷ b ∷ [])

-- what it gives of two words and a bit
abbrev pub with_bit : Op → ℕ → ℕ → ℕ → ℕ → ℕ
with_bit op size a b bit = value op (size ∷ []) (a ∷ b ∷ bit ∷ [])

-- ---- choice

-- 1 gives the first operand of a choice, 0 the second
abbrev pub ChoosesByBit : Type 0
ChoosesByBit = (size a b : ℕ)
    → a < 2 ^ size
    → b < 2 ^ size
    → (value If (size ∷ []) (1 ∷ a ∷ b ∷ []) ≡ a)
    × (value If (size ∷ []) (0 ∷ a ∷ b ∷ []) ≡ b)

-- ---- arithmetic

-- a sum and its carry, which counts 2 to the size, are the numbers added up
abbrev pub AddsWithCarry : Type 0
AddsWithCarry = (size a b bit : ℕ)
    → a < 2 ^ size
    → b < 2 ^ size
    → bit ≤ 1
    → with_bit CAdd size a b bit * 2 ^ size + with_bit Add size a b bit ≡ a + b + bit

-- what is subtracted gives the first number back; no carry is a borrow, where more is subtracted than is there
pub record Subtracts (size a b : ℕ) : Type 0 where
  pub back : (with_bit Sub size a b 1 + b) % 2 ^ size ≡ a
  pub back_borrowed : (with_bit Sub size a b 0 + b + 1) % 2 ^ size ≡ a
  pub enough : b ≤ a → with_bit CSub size a b 1 ≡ 1
  pub borrowed : a < b → with_bit CSub size a b 1 ≡ 0
  pub more_than_enough : b < a → with_bit CSub size a b 0 ≡ 1
  pub borrowed_again : a ≤ b → with_bit CSub size a b 0 ≡ 0

abbrev pub SubtractsWithBorrow : Type 0
SubtractsWithBorrow = (size a b : ℕ) → a < 2 ^ size → b < 2 ^ size → Subtracts size a b

-- a word and its negative add up to nothing, a word and its complement to the greatest word
abbrev pub Negates : Type 0
Negates = (size a : ℕ)
    → a < 2 ^ size
    → ((value Neg (size ∷ []) (a ∷ []) + a) % 2 ^ size ≡ 0)
    × (value Not (size ∷ []) (a ∷ []) + a + 1 ≡ 2 ^ size)

-- a product is as large as both factors together, so nothing is cut
abbrev pub MultipliesInFull : Type 0
MultipliesInFull = (m n a b : ℕ)
    → a < 2 ^ m
    → b < 2 ^ n
    → value UMul (m ∷ n ∷ []) (a ∷ b ∷ []) ≡ a * b

-- -1 times 3 is -3, -128 times -128 is 16384, and 2 times -1 is -2
pub record MultipliesReadings : Type 0 where
  pub mixed : value SMul (8 ∷ 8 ∷ []) (255 ∷ 3 ∷ []) ≡ 65536 - 3
  pub both_negative : value SMul (8 ∷ 8 ∷ []) (128 ∷ 128 ∷ []) ≡ 16384
  pub unequal_sizes : value SMul (8 ∷ 16 ∷ []) (2 ∷ 65535 ∷ []) ≡ 16777216 - 2

-- quotient times divisor, and the rest, which is less than the divisor, give the number back
abbrev pub DividesWords : Type 0
DividesWords = (m n a b : ℕ)
    → a < 2 ^ m
    → 0 < b
    → b < 2 ^ n
    → (value UDiv (m ∷ n ∷ []) (a ∷ b ∷ []) * b + value UMod (m ∷ n ∷ []) (a ∷ b ∷ []) ≡ a)
    × (value UMod (m ∷ n ∷ []) (a ∷ b ∷ []) < b)

-- ---- shifts

-- a shift to higher places multiplies by a power of 2, and cuts
abbrev pub ShiftsUp : Type 0
ShiftsUp = (m n a b : ℕ) → value LShift (m ∷ n ∷ []) (a ∷ b ∷ []) ≡ a * 2 ^ b % 2 ^ m

-- a shift to lower places divides by a power of 2, and rounds down; so does the signed one, below 0 too
pub record RoundsDownAt (m n a b : ℕ) : Type 0 where
  pub below : value RShift (m ∷ n ∷ []) (a ∷ b ∷ []) * 2 ^ b ≤ a
  pub nearest : a < (value RShift (m ∷ n ∷ []) (a ∷ b ∷ []) + 1) * 2 ^ b
  pub signed_below : (signed m (value RShiftA (m ∷ n ∷ []) (a ∷ b ∷ [])) *ℤ pos (2 ^ b)) ≤ℤ signed m a
  pub signed_nearest : signed m a <ℤ ((signed m (value RShiftA (m ∷ n ∷ []) (a ∷ b ∷ [])) +ℤ pos 1) *ℤ pos (2 ^ b))

abbrev pub RoundsDown : Type 0
RoundsDown = (m n a b : ℕ) → 1 ≤ m → a < 2 ^ m → RoundsDownAt m n a b

-- ---- orders

-- what four orders say of two words of which the first is less
pub record IsBelow (less at_most greater at_least : Op) (size a b : ℕ) : Type 0 where
  pub is_less : of_two less size a b ≡ 1
  pub is_at_most : of_two at_most size a b ≡ 1
  pub not_greater : of_two greater size a b ≡ 0
  pub not_at_least : of_two at_least size a b ≡ 0
  pub reversed_less : of_two less size b a ≡ 0
  pub reversed_at_most : of_two at_most size b a ≡ 0
  pub reversed_greater : of_two greater size b a ≡ 1
  pub reversed_at_least : of_two at_least size b a ≡ 1

-- what they say of a word and itself
pub record IsLevel (less at_most greater at_least : Op) (size a : ℕ) : Type 0 where
  pub not_less : of_two less size a a ≡ 0
  pub is_at_most : of_two at_most size a a ≡ 1
  pub not_greater : of_two greater size a a ≡ 0
  pub is_at_least : of_two at_least size a a ≡ 1

-- the unsigned orders are those of the numbers, the signed ones those of the readings
pub record OrdersWords : Type 0 where
  pub unsigned : (size a b : ℕ) → a < b → IsBelow ULt ULe UGt UGe size a b
  pub unsigned_level : (size a : ℕ) → IsLevel ULt ULe UGt UGe size a
  pub signed_readings : (size a b : ℕ) → signed size a <ℤ signed size b → IsBelow SLt SLe SGt SGe size a b
  pub signed_level : (size a : ℕ) → IsLevel SLt SLe SGt SGe size a

-- two words are equal or not
pub record TellsEqual : Type 0 where
  pub same : (size a : ℕ) → (of_two Eq size a a ≡ 1) × (of_two Neq size a a ≡ 0)
  pub other : (size a b : ℕ) → a ≢ b → (of_two Eq size a b ≡ 0) × (of_two Neq size a b ≡ 1)

-- ---- sizes

-- a sign extension keeps the signed reading, a zero extension the word, a truncation the lowest bits
abbrev pub KeepsReading : Type 0
KeepsReading = (m n a : ℕ)
    → 1 ≤ m
    → m ≤ n
    → a < 2 ^ m
    → (signed n (value SExt (m ∷ n ∷ []) (a ∷ [])) ≡ signed m a)
    × (value ZExt (m ∷ n ∷ []) (a ∷ []) ≡ a)
    × (value Trunc (n ∷ m ∷ []) (a ∷ []) ≡ a)

-- ---- bits

-- bits of both, of either and of just one of two words: 12 has the bits 8 and 4, and 10 the bits 8 and 2
pub record TakesBitsOfBoth : Type 0 where
  pub both : of_two And 8 12 10 ≡ 8
  pub either : of_two Or 8 12 10 ≡ 8 + 4 + 2
  pub just_one : of_two Xor 8 12 10 ≡ 4 + 2
