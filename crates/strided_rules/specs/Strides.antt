-- Strided values: the words of a size that the numbers of a progression are.
--   Stride            a size and a progression
--   IsMember w p t    t is the word of a number of p
--   Covers x t        t is a word of x
--   IsStride x        the size is 1 to 64, and the progression is in normal form at it
--   centered w n      the number of the signed range that is n modulo 2 to the size
--   whole w           every number of the signed range
--   norm w p          p moved by 2 to the size so that its low end lies in the signed range; all where it goes round
--   shorter p q       the first, or the second where that is shorter
--   join w p q        of three placings the one with the shortest hull, in normal form
--   one_word, every_word, joined   values of one word, of every word; the join of two
use Rattle.std.specs.Prelude.{◌≡◌, ℕ, ℤ, pos, neg_ℤ, ◌+ℤ◌, ◌-ℤ◌, int_le, int_lt, if◌then◌else◌}
use Rattle.std.specs.Int.{int_rem_euclid}
use Rattle.alf_ops.specs.TwosComplement.{word}
use Rattle.domain_core.specs.WordSets.{IsWordSize}
use Rattle.progressions.specs.declared.ends.Progression.{Progression}
use Rattle.progressions.specs.Progressions.{Has, IsPlaced, full, half, lone, hull}
use Rattle.progressions.specs.Images.{moved}

pub record Stride : Type 0 where
  pub size : ℕ
  pub numbers : Progression

-- t is the word of a number of p
pub record IsMember (w : ℕ) (p : Progression) (t : ℕ) : Type 0 where
  pub number : ℤ
  pub has : Has p number
  pub word : word w number ≡ t

-- t is a word of x
abbrev pub Covers : Stride → ℕ → Type 0
Covers x t = IsMember x.size x.numbers t

pub record IsStride (x : Stride) : Type 0 where
  pub size : IsWordSize x.size
  pub placed : IsPlaced x.size x.numbers

-- the number of the signed range that is n modulo 2 to the size
abbrev pub centered : ℕ → ℤ → ℤ
centered w n = int_rem_euclid (n +ℤ half w) (full w) -ℤ half w

-- every number of the signed range
abbrev pub whole : ℕ → Progression
whole w = record { lo = neg_ℤ (half w); hi = half w -ℤ pos 1; step = pos 1 }

-- moved so that the low end lies in the signed range; all where it goes round
unfoldable pub norm : ℕ → Progression → Progression
norm w p = if int_le (full w) (p.hi -ℤ p.lo) then whole w else moved (centered w p.lo -ℤ p.lo) p

-- the first, or the second where that is shorter
abbrev pub shorter : Progression → Progression → Progression
shorter p q = if int_lt (q.hi -ℤ q.lo) (p.hi -ℤ p.lo) then q else p

-- both as they are, the first moved up, the second moved up: the shortest hull, of equals the first
unfoldable pub join : ℕ → Progression → Progression → Progression
join w p q = norm w (shorter (shorter (hull p q) (hull (moved (full w) p) q)) (hull p (moved (full w) q)))

abbrev pub one_word : ℕ → ℕ → Stride
one_word w t = record { size = w; numbers = norm w (lone (pos t)) }

abbrev pub every_word : ℕ → Stride
every_word w = record { size = w; numbers = whole w }

abbrev pub joined : Stride → Stride → Stride
joined a b = record { size = a.size; numbers = join a.size a.numbers b.numbers }
