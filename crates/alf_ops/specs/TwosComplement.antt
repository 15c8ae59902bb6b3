-- Words in two's complement. Operators, readers and printers of numbers cite these definitions.
--   word size z                    the whole number z modulo 2 to the size
--   signed size a                  the word a of the size, read in two's complement
--   sign z                         z is below 0
--   with_sign negative distance    the number of this sign and this distance from 0
--   is_negative size a             the reading of the word is below 0
--   distance size a                how far its reading is from 0
use Rattle.std.specs.Prelude.{ℕ, ℤ, pos, negsuc, Bool, true, false, ◌-◌, ◌^◌, nat_lt, neg_ℤ, ◌-ℤ◌, unsigned_abs, if◌then◌else◌}
use Rattle.std.specs.Int.{int_rem_euclid}

-- the whole number z modulo 2 to the size
abbrev pub word : ℕ → ℤ → ℕ
word size z = unsigned_abs (int_rem_euclid z (pos (2 ^ size)))

-- the word a of the size, read in two's complement
abbrev pub signed : ℕ → ℕ → ℤ
signed size a = if nat_lt a (2 ^ (size - 1)) then pos a else pos a -ℤ pos (2 ^ size)

-- z is below 0
abbrev pub sign : ℤ → Bool
sign (pos n) = false
sign (negsuc n) = true

-- the number of this sign and this distance from 0
abbrev pub with_sign : Bool → ℕ → ℤ
with_sign negative distance = if negative then neg_ℤ (pos distance) else pos distance

-- the reading of the word is below 0
abbrev pub is_negative : ℕ → ℕ → Bool
is_negative size a = sign (signed size a)

-- how far its reading is from 0
abbrev pub distance : ℕ → ℕ → ℕ
distance size a = unsigned_abs (signed size a)
