-- The rules of the operators on values, where some operand has more than one member.
--   by_word b w f      f at the word of b where it is one, else every word of the size w
--   carried w c sum    the sums joined over those of the words 0 and 1 that are members of c
--   mask_size w x      the k up to w with x = 2^k - 1
--   some_choice test a b   some choice of a piece of each passes
--   truth holds fails  1, 0 or both
--   rule op m n h a b c    the operator's rule; m, n, h are the sizes written, a, b, c its operands
use Rattle.std.specs.Prelude.{ℕ, zero, suc, ℤ, pos, neg_ℤ, Bool, not, false, ◌+◌, ◌-◌, ◌^◌, ◌==◌, ◌-ℤ◌, ◌&&◌, ◌||◌, int_le, int_lt, nat_le, unsigned_abs, if◌then◌else◌, Option, Some, None}
use Rattle.std.specs.Int.{int_rem_euclid, int_min}
use Rattle.alf_ops.specs.declared.operator.Op.{Op}
use Rattle.alf_ops.specs.declared.operator.Op.TheVariants.{Neg, Not, Add, Sub, CAdd, CSub, UMul, SMul, UDiv, SDiv, UMod, SMod, LShift, RShift, RShiftA, And, Or, Xor, Eq, Neq, ULt, ULe, UGt, UGe, SLt, SLe, SGt, SGe, SExt, ZExt, Trunc, Select, Conc, If, RotL, RotR, UMin, UMax, SMin, SMax}
use Rattle.alf_ops.specs.TwosComplement.{signed}
use Rattle.whole_numbers.specs.Numbers.{gcd}
use Rattle.progressions.specs.declared.ends.Progression.{Progression}
use Rattle.progressions.specs.declared.ends.Pieces.{Pieces}
use Rattle.progressions.specs.Progressions.{full}
use Rattle.progressions.specs.Images.{moved, negated, sums, differences, products, multiples, quotients}
use Rattle.strided_rules.specs.Strides.{Stride, norm, one_word, every_word, joined}
use Rattle.strided_rules.specs.Joins.{added, each, each_pair, settled}
use Rattle.strided_rules.specs.Rules.{span, above, ratios, toward_zero, rests, signed_rests, lesser, greater}
use Rattle.strided_rules.specs.Members.{unsigned_of, signed_of, is_one, word_of, has, is_same, unsigned_greatest}

-- over the pieces of one value, and over the choices of pieces of two
abbrev pub unsigned_each : ℕ → (Progression → Progression) → Stride → Stride
unsigned_each w rule a = settled w (each w rule (unsigned_of a))

abbrev pub signed_each : ℕ → (Progression → Progression) → Stride → Stride
signed_each w rule a = settled w (each w rule (signed_of a))

abbrev pub unsigned_pair : ℕ → (Progression → Progression → Progression) → Stride → Stride → Stride
unsigned_pair w rule a b = settled w (each_pair w rule (unsigned_of a) (unsigned_of b))

abbrev pub signed_pair : ℕ → (Progression → Progression → Progression) → Stride → Stride → Stride
signed_pair w rule a b = settled w (each_pair w rule (signed_of a) (signed_of b))

-- f at the one word of b; every word where b has more
abbrev pub by_word : Stride → ℕ → (ℕ → Stride) → Stride
by_word b w f = if is_one b then f (word_of b) else every_word w

-- ---- sums

abbrev pub neg : Stride → Stride
neg a = record { size = a.size; numbers = norm a.size (negated a.numbers) }

abbrev pub complement : Stride → Stride
complement a = record { size = a.size; numbers = norm a.size (moved (neg_ℤ (pos 1)) (negated a.numbers)) }

-- joined over those of the words 0 and 1 that are members of c, in this order
abbrev pub with_carry : ℕ → Stride → (ℤ → Progression) → ℕ → Option Progression → Option Progression
with_carry w c sum t so_far = if has c t then added w (sum (pos t)) so_far else so_far

abbrev pub carried : ℕ → Stride → (ℤ → Progression) → Stride
carried w c sum = settled w (with_carry w c sum 1 (with_carry w c sum 0 None))

abbrev pub add : Stride → Stride → Stride → Stride
add a b c = carried a.size c (λ k. moved k (sums a.numbers b.numbers))

abbrev pub sub : Stride → Stride → Stride → Stride
sub a b c = carried a.size c (λ k. moved (k -ℤ pos 1) (differences a.numbers b.numbers))

-- ---- division by one word, and shifts

abbrev pub s_div : Stride → Stride → Stride
s_div a b = by_word b a.size (λ d. signed_each a.size (toward_zero (signed b.size d)) a)

abbrev pub u_mod : Stride → Stride → Stride
u_mod a b = by_word b b.size (λ d. unsigned_each b.size (rests (pos d)) a)

abbrev pub s_mod : Stride → Stride → Stride
s_mod a b = by_word b b.size (λ d. signed_each b.size (signed_rests (pos (unsigned_abs (signed b.size d)))) a)

abbrev pub l_shift_by : Stride → ℕ → Stride
l_shift_by a k = if nat_le a.size k then one_word a.size 0 else record { size = a.size; numbers = norm a.size (multiples (full k) a.numbers) }

abbrev pub r_shift_by : Stride → ℕ → Stride
r_shift_by a k = unsigned_each a.size (quotients (full k)) a

abbrev pub r_shift_a_by : Stride → ℕ → Stride
r_shift_a_by a k = signed_each a.size (quotients (full k)) a

-- ---- sizes

abbrev pub z_ext : ℕ → Stride → Stride
z_ext n a = unsigned_each n (λ p. p) a

abbrev pub s_ext : ℕ → Stride → Stride
s_ext n a = signed_each n (λ p. p) a

abbrev pub trunc : ℕ → Stride → Stride
trunc n a = record { size = n; numbers = norm n a.numbers }

abbrev pub select : ℕ → ℕ → Stride → Stride
select low high a = trunc (high - low + 1) (r_shift_by a low)

-- ---- conjunction

-- the k up to the size with x = 2^k - 1
abbrev pub mask_size : ℕ → ℕ → Option ℕ
mask_size zero x = if x == 0 then Some 0 else None
mask_size (suc k) x = if x + 1 == 2 ^ suc k then Some (suc k) else mask_size k x

abbrev pub mask_of : Stride → Option ℕ
mask_of a = if is_one a then mask_size a.size (word_of a) else None

-- the k lowest bits
abbrev pub masked : ℕ → Stride → Stride
masked k a = if k == 0 then one_word a.size 0 else (if k == a.size then a else z_ext a.size (trunc k a))

abbrev pub conjunction_by : Option ℕ → Option ℕ → Stride → Stride → Stride
conjunction_by (Some k) second a b = masked k b
conjunction_by None (Some k) a b = masked k a
conjunction_by None None a b = record { size = a.size; numbers = norm a.size (span (pos 0) (int_min (unsigned_greatest a) (unsigned_greatest b))) }

abbrev pub conjunction : Stride → Stride → Stride
conjunction a b = conjunction_by (mask_of a) (mask_of b) a b

-- ---- comparisons

-- some choice of pieces passes
abbrev pub at_choice : (Progression → Progression → Bool) → Option Progression → Option Progression → Bool
at_choice test None q = false
at_choice test (Some p) None = false
at_choice test (Some p) (Some q) = test p q

abbrev pub some_second : (Progression → Progression → Bool) → Option Progression → Pieces → Bool
some_second test p b = at_choice test p b.first || (at_choice test p b.second || at_choice test p b.third)

abbrev pub some_choice : (Progression → Progression → Bool) → Pieces → Pieces → Bool
some_choice test a b = some_second test a.first b || (some_second test a.second b || some_second test a.third b)

-- 1 where it may hold, 0 where it may fail
abbrev pub truth : Bool → Bool → Stride
truth holds fails = if holds && fails then every_word 1 else (if holds then one_word 1 1 else one_word 1 0)

-- a number of the first may be below one of the second, or at most that
abbrev pub below : Progression → Progression → Bool
below p q = int_lt p.lo q.hi

abbrev pub at_most : Progression → Progression → Bool
at_most p q = int_le p.lo q.hi

abbrev pub less : Pieces → Pieces → Stride
less a b = truth (some_choice below a b) (some_choice at_most b a)

abbrev pub less_or_equal : Pieces → Pieces → Stride
less_or_equal a b = truth (some_choice at_most a b) (some_choice below b a)

-- the ranges overlap, and the low ends agree modulo the common divisor of the steps, which is 0 where they are to be
-- equal
abbrev pub agree : ℤ → ℤ → Bool
agree g apart = if int_le g (pos 0) then is_same apart (pos 0) else is_same (int_rem_euclid apart g) (pos 0)

abbrev pub meet : Progression → Progression → Bool
meet p q = int_le p.lo q.hi && (int_le q.lo p.hi && agree (gcd p.step q.step) (p.lo -ℤ q.lo))

abbrev pub may_equal : Stride → Stride → Bool
may_equal a b = some_choice meet (unsigned_of a) (unsigned_of b)

abbrev pub may_differ : Stride → Stride → Bool
may_differ a b = not (is_one a && (is_one b && (word_of a == word_of b)))

-- ---- choice

abbrev pub choice : Stride → Stride → Stride → Stride
choice c a b = if has c 1 then (if has c 0 then joined a b else a) else b

-- ---- all rules

abbrev pub rule : Op → ℕ → ℕ → ℕ → Stride → Stride → Stride → Stride
rule Neg m n h a b c = neg a
rule Not m n h a b c = complement a
rule Add m n h a b c = add a b c
rule Sub m n h a b c = sub a b c
rule CAdd m n h a b c = every_word 1
rule CSub m n h a b c = every_word 1
rule UMul m n h a b c = unsigned_pair (m + n) products a b
rule SMul m n h a b c = signed_pair (m + n) products a b
rule UDiv m n h a b c = unsigned_pair m ratios a b
rule SDiv m n h a b c = s_div a b
rule UMod m n h a b c = u_mod a b
rule SMod m n h a b c = s_mod a b
rule LShift m n h a b c = by_word b m (l_shift_by a)
rule RShift m n h a b c = by_word b m (r_shift_by a)
rule RShiftA m n h a b c = by_word b m (r_shift_a_by a)
rule And m n h a b c = conjunction a b
rule Or m n h a b c = every_word m
rule Xor m n h a b c = every_word m
rule Eq m n h a b c = truth (may_equal a b) (may_differ a b)
rule Neq m n h a b c = truth (may_differ a b) (may_equal a b)
rule ULt m n h a b c = less (unsigned_of a) (unsigned_of b)
rule ULe m n h a b c = less_or_equal (unsigned_of a) (unsigned_of b)
rule UGt m n h a b c = less (unsigned_of b) (unsigned_of a)
rule UGe m n h a b c = less_or_equal (unsigned_of b) (unsigned_of a)
rule SLt m n h a b c = less (signed_of a) (signed_of b)
rule SLe m n h a b c = less_or_equal (signed_of a) (signed_of b)
rule SGt m n h a b c = less (signed_of b) (signed_of a)
rule SGe m n h a b c = less_or_equal (signed_of b) (signed_of a)
rule SExt m n h a b c = s_ext n a
rule ZExt m n h a b c = z_ext n a
rule Trunc m n h a b c = trunc n a
rule Select m n h a b c = select n h a
rule Conc m n h a b c = unsigned_pair (m + n) (above (full n)) a b
rule If m n h a b c = choice a b c
rule RotL m n h a b c = every_word m
rule RotR m n h a b c = every_word m
rule UMin m n h a b c = unsigned_pair m lesser a b
rule UMax m n h a b c = unsigned_pair m greater a b
rule SMin m n h a b c = signed_pair m lesser a b
rule SMax m n h a b c = signed_pair m greater a b
