-- Members of values, and what is kept of a value where something is known of its word.
--   unsigned_of x, signed_of x    the pieces of a value
--   is_one x, word_of x    x has one member; the word of its low end
--   has x t                the word t is a member
--   only x t               the one word t, where it is a member
--   without x t            t dropped from each unsigned piece whose first or last number it is, the rest joined
--   between_pieces least greatest pieces   the numbers of the pieces from least to greatest
--   greatest_of, least_of  the greatest and the least number of pieces
--   assumed rel x y        the members of x that may be in the relation to one of y
use Rattle.std.specs.Prelude.{ℕ, ℤ, pos, neg_ℤ, Bool, ◌+ℤ◌, ◌-ℤ◌, ◌^◌, ◌&&◌, ◌||◌, int_le, nat_lt, if◌then◌else◌, Option, Some, None}
use Rattle.std.specs.Int.{int_rem_euclid, int_min, int_max}
use Rattle.alf_ops.specs.TwosComplement.{word}
use Rattle.domain_core.specs.declared.relation.Rel.{Rel}
use Rattle.domain_core.specs.declared.relation.Rel.TheVariants.{Eq, Neq, ULt, ULe, UGt, UGe, SLt, SLe, SGt, SGe}
use Rattle.progressions.specs.declared.ends.Progression.{Progression}
use Rattle.progressions.specs.declared.ends.Pieces.{Pieces}
use Rattle.progressions.specs.Progressions.{full, half}
use Rattle.progressions.specs.Parts.{between, without_first, without_last, unsigned_pieces, signed_pieces}
use Rattle.strided_rules.specs.Strides.{Stride, one_word}
use Rattle.strided_rules.specs.Joins.{each, kept_value}

abbrev pub unsigned_of : Stride → Pieces
unsigned_of x = unsigned_pieces x.size x.numbers

abbrev pub signed_of : Stride → Pieces
signed_of x = signed_pieces x.size x.numbers

-- x has one member, and the word of its low end
abbrev pub is_one : Stride → Bool
is_one x = int_le x.numbers.hi x.numbers.lo

abbrev pub word_of : Stride → ℕ
word_of x = word x.size x.numbers.lo

-- n is one of the numbers of p
abbrev pub has_number : Progression → ℤ → Bool
has_number p n = int_le p.lo n && (int_le n p.hi && (int_le p.hi p.lo || int_le (int_rem_euclid (n -ℤ p.lo) p.step) (pos 0)))

-- the word t is a member: by the three numbers that it may be
abbrev pub has : Stride → ℕ → Bool
has x t = nat_lt t (2 ^ x.size) && (has_number x.numbers (pos t) || (has_number x.numbers (pos t -ℤ full x.size) || has_number x.numbers (pos t +ℤ full x.size)))

-- the one word t, where it is a member
abbrev pub only : Stride → ℕ → Option Stride
only x t = if has x t then Some (one_word x.size t) else None

-- a part of each piece
abbrev pub part_of : (Progression → Option Progression) → Option Progression → Option Progression
part_of part None = None
part_of part (Some p) = part p

abbrev pub parts_of : (Progression → Option Progression) → Pieces → Pieces
parts_of part pieces = record { first = part_of part pieces.first; second = part_of part pieces.second; third = part_of part pieces.third }

-- the parts of the pieces, joined
abbrev pub rest_of : ℕ → (Progression → Option Progression) → Pieces → Option Stride
rest_of w part pieces = kept_value w (each w (λ p. p) (parts_of part pieces))

abbrev pub is_same : ℤ → ℤ → Bool
is_same n m = int_le n m && int_le m n

-- n dropped where it is the first or the last number
abbrev pub without_end : ℤ → Progression → Option Progression
without_end n p = if is_same p.lo n then without_first p else (if is_same p.hi n then without_last p else Some p)

abbrev pub without : Stride → ℕ → Option Stride
without x t = rest_of x.size (without_end (pos t)) (unsigned_of x)

-- the greatest and the least number of pieces that lie from least to greatest
abbrev pub greater_end : ℤ → Option Progression → ℤ
greater_end so_far None = so_far
greater_end so_far (Some p) = int_max so_far p.hi

abbrev pub greatest_of : ℤ → Pieces → ℤ
greatest_of least pieces = greater_end (greater_end (greater_end least pieces.first) pieces.second) pieces.third

abbrev pub lesser_end : ℤ → Option Progression → ℤ
lesser_end so_far None = so_far
lesser_end so_far (Some p) = int_min so_far p.lo

abbrev pub least_of : ℤ → Pieces → ℤ
least_of greatest pieces = lesser_end (lesser_end (lesser_end greatest pieces.first) pieces.second) pieces.third

-- the ends of the unsigned and of the signed range, and of a value in it
abbrev pub unsigned_greatest : Stride → ℤ
unsigned_greatest y = greatest_of (pos 0) (unsigned_of y)

abbrev pub unsigned_least : Stride → ℤ
unsigned_least y = least_of (full y.size -ℤ pos 1) (unsigned_of y)

abbrev pub signed_greatest : Stride → ℤ
signed_greatest y = greatest_of (neg_ℤ (half y.size)) (signed_of y)

abbrev pub signed_least : Stride → ℤ
signed_least y = least_of (half y.size -ℤ pos 1) (signed_of y)

-- the members of x that are from least to greatest, read unsigned, and read signed
abbrev pub unsigned_between : Stride → ℤ → ℤ → Option Stride
unsigned_between x least greatest = rest_of x.size (between least greatest) (unsigned_of x)

abbrev pub signed_between : Stride → ℤ → ℤ → Option Stride
signed_between x least greatest = rest_of x.size (between least greatest) (signed_of x)

-- the members of x that may be in the relation to a member of y
abbrev pub assumed : Rel → Stride → Stride → Option Stride
assumed Eq x y = if is_one y then only x (word_of y) else unsigned_between x (unsigned_least y) (unsigned_greatest y)
assumed Neq x y = if is_one y then without x (word_of y) else Some x
assumed ULt x y = unsigned_between x (pos 0) (unsigned_greatest y -ℤ pos 1)
assumed ULe x y = unsigned_between x (pos 0) (unsigned_greatest y)
assumed UGt x y = unsigned_between x (unsigned_least y +ℤ pos 1) (full x.size -ℤ pos 1)
assumed UGe x y = unsigned_between x (unsigned_least y) (full x.size -ℤ pos 1)
assumed SLt x y = signed_between x (neg_ℤ (half x.size)) (signed_greatest y -ℤ pos 1)
assumed SLe x y = signed_between x (neg_ℤ (half x.size)) (signed_greatest y)
assumed SGt x y = signed_between x (signed_least y +ℤ pos 1) (half x.size -ℤ pos 1)
assumed SGe x y = signed_between x (signed_least y) (half x.size -ℤ pos 1)
