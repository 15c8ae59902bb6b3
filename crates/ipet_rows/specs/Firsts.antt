-- Entries of a list, first answers, and numbers of 128 bits.
--   entry ys j   the number at place j, 0 past the last
--   or_else a b  the first of two answers
--   first n f    the first answer among f 0 .. f (n - 1)
--   fits z       the number is one of 128 signed bits
use Rattle.std.specs.Prelude.{ℕ, zero, suc, ℤ, pos, negsuc, Bool, nat_lt, ◌^◌, List, [], ◌∷◌, Option, None, Some}

-- the number at place j, 0 past the last
abbrev pub entry : List ℤ → ℕ → ℤ
entry [] j = pos 0
entry (a ∷ more) zero = a
entry (a ∷ more) (suc j) = entry more j

-- the first of two answers
abbrev pub or_else : {A : Type 0} → Option A → Option A → Option A
or_else None b = b
or_else (Some v) b = Some v

-- the first answer among f 0 .. f (n - 1)
abbrev pub first : {A : Type 0} → ℕ → (ℕ → Option A) → Option A
first zero f = None
first (suc n) f = or_else (first n f) (f n)

-- the number is one of 128 signed bits
abbrev pub fits : ℤ → Bool
fits (pos n) = nat_lt n (2 ^ 127)
fits (negsuc n) = nat_lt n (2 ^ 127)
