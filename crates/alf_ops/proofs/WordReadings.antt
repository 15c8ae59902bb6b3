-- What the laws of words say.
use Rattle.std.proofs.Common.{◌≡◌, ℕ, [], ◌∷◌, ◌+◌, ◌-◌, ◌*◌, ◌/◌, ◌%◌, ◌^◌, ◌<◌, ◌≤◌, ℤ, pos, negsuc, neg_ℤ, refl, ap, ◌∙◌, arith}
use Rattle.std.proofs.lemmas.Grind.{common_steps}
use Rattle.std.specs.Prelude.{◌≤ℤ◌, ◌<ℤ◌, ◌-ℤ◌, ◌*ℤ◌, int_lt, int_div, unsigned_abs, min, max, if◌then◌else◌}
use Rattle.std.specs.Int.{int_min, int_max}
use Rattle.lists.specs.TestLaws.{by_test}
use Rattle.std.proofs.lemmas.Int.{ints}
use Rattle.std.proofs.lemmas.Nat.{pow_pos, pow-add, mod_below, mul-add-lt}
use Rattle.alf_ops.specs.declared.operator.Op.TheVariants.{SDiv, SMod, Select, Conc, UMin, UMax, SMin, SMax}
use Rattle.alf_ops.specs.TwosComplement.{word, signed}
use Rattle.alf_ops.specs.Words.{value}
use Rattle.alf_ops.specs.Histories.{byte_of}
use Rattle.alf_ops.specs.WordLaws.{IsQuotient, Splits}
use Rattle.alf_ops.proofs.Modular.{mod_small}

pub word_below : (size : ℕ) (z : ℤ) → word size z < 2 ^ size
word_below size (pos n) = mod_below n (2 ^ size) (pow_pos size)
word_below size (negsuc n) = omega (arith, pow_pos size)

-- a power of 2 is two halves
halves : (size : ℕ) → 1 ≤ size → 2 ^ size ≡ 2 ^ (size - 1) * 2
halves size positive = ap (λ n. 2 ^ n) (let same : size ≡ size - 1 + 1 = omega arith in same) ∙ pow-add 2 (size - 1) 1

pub reads_twos_complement : (size a : ℕ) → 1 ≤ size → a < 2 ^ size
    → (word size (signed size a) ≡ a) × (neg_ℤ (pos (2 ^ (size - 1))) ≤ℤ signed size a) × (signed size a <ℤ pos (2 ^ (size - 1)))
reads_twos_complement size a positive below =
    let two = halves size positive in
    (grind (arith, ints, mod_small), grind (arith, ints, two), grind (arith, ints, two))

-- a word is the word of its reading
read_back : (size a : ℕ) → 1 ≤ size → a < 2 ^ size → word size (signed size a) ≡ a
read_back size a positive below = (reads_twos_complement size a positive below).0

pub signed_lesser_is : (size a b : ℕ) → 1 ≤ size → a < 2 ^ size → b < 2 ^ size
    → word size (int_min (signed size a) (signed size b)) ≡ (if int_lt (signed size b) (signed size a) then b else a)
signed_lesser_is size a b positive below_a below_b = by_test (int_lt (signed size b) (signed size a))
    (λ e. rw e (read_back size b positive below_b))
    (λ e. rw e (read_back size a positive below_a))

pub signed_greater_is : (size a b : ℕ) → 1 ≤ size → a < 2 ^ size → b < 2 ^ size
    → word size (int_max (signed size a) (signed size b)) ≡ (if int_lt (signed size b) (signed size a) then a else b)
signed_greater_is size a b positive below_a below_b = by_test (int_lt (signed size b) (signed size a))
    (λ e. rw e (read_back size a positive below_a))
    (λ e. rw e (read_back size b positive below_b))

-- a number of the signed range is the reading of its word
pub is_read : (size : ℕ) (z : ℤ) → 1 ≤ size → neg_ℤ (pos (2 ^ (size - 1))) ≤ℤ z → z <ℤ pos (2 ^ (size - 1))
    → signed size (word size z) ≡ z
is_read size (pos n) positive low high =
    let two = halves size positive in
    let small : n < 2 ^ size = grind (arith, ints, two) in
    let same : n % 2 ^ size ≡ n = mod_small n (2 ^ size) small in
    rw same (grind (arith, ints, two))
is_read size (negsuc n) positive low high =
    let two = halves size positive in
    let small : n < 2 ^ size = grind (arith, ints, two) in
    let same : n % 2 ^ size ≡ n = mod_small n (2 ^ size) small in
    rw same (grind (arith, ints, two))

-- a quotient is truncated
is_truncated : (x y : ℤ) → 0 < unsigned_abs y → IsQuotient x y (int_div x y)
is_truncated x y some = record { toward_zero = grind (arith, ints, common_steps); nearest = grind (arith, ints, common_steps) }

reading_some : (n b : ℕ) → 0 < b → b < 2 ^ n → 0 < unsigned_abs (signed n b)
reading_some n b some below = grind (arith, ints)

pub truncates : (m n a b : ℕ) → 0 < b → b < 2 ^ n
    → (q : ℤ) × IsQuotient (signed m a) (signed n b) q × (value SDiv (m ∷ n ∷ []) (a ∷ b ∷ []) ≡ word m q) × (value SMod (m ∷ n ∷ []) (a ∷ b ∷ []) ≡ word n (signed m a -ℤ (signed n b *ℤ q)))
truncates m n a b some below = (int_div (signed m a) (signed n b), is_truncated (signed m a) (signed n b) (reading_some n b some below), refl, refl)

-- the lesser and the greater
unsigned_splits : (size a b : ℕ) → a < 2 ^ size → b < 2 ^ size → a ≤ b → Splits UMin UMax size a b
unsigned_splits size a b below_a below_b order = record {
  lesser = kept (min a b) a (omega arith) below_a;
  lesser_reversed = kept (min b a) a (omega arith) below_a;
  greater = kept (max a b) b (omega arith) below_b;
  greater_reversed = kept (max b a) b (omega arith) below_b;
}
  where
    kept : (x y : ℕ) → x ≡ y → y < 2 ^ size → x % 2 ^ size ≡ y
    kept x y same below = ap (λ (n : ℕ). n % 2 ^ size) same ∙ mod_small y (2 ^ size) below

signed_splits : (size a b : ℕ) → 1 ≤ size → a < 2 ^ size → b < 2 ^ size → signed size a ≤ℤ signed size b
    → Splits SMin SMax size a b
signed_splits size a b positive below_a below_b order = record {
  lesser = kept (int_min (signed size a) (signed size b)) a (grind (arith, ints)) below_a;
  lesser_reversed = kept (int_min (signed size b) (signed size a)) a (grind (arith, ints)) below_a;
  greater = kept (int_max (signed size a) (signed size b)) b (grind (arith, ints)) below_b;
  greater_reversed = kept (int_max (signed size b) (signed size a)) b (grind (arith, ints)) below_b;
}
  where
    kept : (x : ℤ) (y : ℕ) → x ≡ signed size y → y < 2 ^ size → word size x ≡ y
    kept x y same below = ap (word size) same ∙ read_back size y positive below

pub splits : (size a b : ℕ) → 1 ≤ size → a < 2 ^ size → b < 2 ^ size
    → (a ≤ b → Splits UMin UMax size a b) × (signed size a ≤ℤ signed size b → Splits SMin SMax size a b)
splits size a b positive below_a below_b = (unsigned_splits size a b below_a below_b, signed_splits size a b positive below_a below_b)

pub selects_bytes : (size a place : ℕ)
    → value Select (size ∷ 8 * place ∷ (8 * place + 7) ∷ []) (a ∷ []) ≡ byte_of place a
selects_bytes size a place = let eight : 8 * place + 7 - 8 * place + 1 ≡ 8 = omega arith in ap (λ (n : ℕ). a / 2 ^ (8 * place) % 2 ^ n) eight

pub concatenates : (m n a b : ℕ) → a < 2 ^ m → b < 2 ^ n → value Conc (m ∷ n ∷ []) (a ∷ b ∷ []) ≡ a * 2 ^ n + b
concatenates m n a b below_a below_b =
    let whole : a * 2 ^ n + b < 2 ^ n * 2 ^ m = mul-add-lt a (2 ^ n) b (2 ^ m) below_a below_b in
    let power : 2 ^ (m + n) ≡ 2 ^ m * 2 ^ n = pow-add 2 m n in
    mod_small (a * 2 ^ n + b) (2 ^ (m + n)) (omega arith)
