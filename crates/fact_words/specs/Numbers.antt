-- Numbers of a report.
--   DepartureAt P, Fault        how a text departs from the grammar; a fault tells its place by how many bytes of the text are left there
--   is_numeral text             digits, and nothing else
--   has_zeros text              a zero stands before other digits
--   number_within most text left  the number that the word writes, of at most so much, or the fault of the word, where so many bytes are left
--   whole_within text left      the same for a whole number of 128 bits with its sign
use Rattle.std.specs.Prelude.{ℕ, ℤ, pos, negsuc, neg_ℤ, ◌-◌, ◌^◌, ◌&&◌, ◌==◌, List, [], ◌∷◌, length, Bool, false, Result, Ok, Err, nat_lt, if◌then◌else◌}
use Rattle.std.specs.List.{list_all}
use Rattle.std.specs.Char.{is_ascii_digit}
use Rattle.flow_base.specs.Digits.{number_of}
use Rattle.grammar.specs.Form.{and_then}

-- how a text departs from the grammar, where places are of type P
pub data DepartureAt (P : Type 0) : Type 0 where
  -- the word that begins here does not fit
  Syntax : P → DepartureAt P
  -- the number that begins here is outside its range
  Number : P → DepartureAt P

-- a departure whose place is told by how many bytes of the text are left there
abbrev pub Fault : Type 0
Fault = DepartureAt ℕ

-- digits, and nothing else
abbrev pub is_numeral : List ℕ → Bool
is_numeral text = nat_lt 0 (length text) && list_all is_ascii_digit text

-- a zero stands before other digits
abbrev pub has_zeros : List ℕ → Bool
has_zeros [] = false
has_zeros (d ∷ ds) = (d == 48) && nat_lt 0 (length ds)

-- a number outside its range is told before zeros that stand before it
unfoldable pub number_within : ℕ → List ℕ → ℕ → Result ℕ Fault
number_within most text left =
    if is_numeral text then (if nat_lt most (number_of text) then Err (Number left) else if has_zeros text then Err (Syntax left) else Ok (number_of text))
    else Err (Syntax left)

-- a minus comes first
abbrev pub is_below : List ℕ → Bool
is_below [] = false
is_below (b ∷ bs) = b == 45

abbrev pub after_minus : List ℕ → List ℕ
after_minus [] = []
after_minus (b ∷ bs) = bs

-- no zero has a minus
abbrev pub negative : ℕ → ℕ → Result ℤ Fault
negative left n = if n == 0 then Err (Syntax left) else Ok (neg_ℤ (pos n))

unfoldable pub whole_within : List ℕ → ℕ → Result ℤ Fault
whole_within text left =
    if is_below text then and_then (number_within (2 ^ 127) (after_minus text) left) (negative left)
    else and_then (number_within (2 ^ 127 - 1) text left) (λ n. Ok (pos n))

-- a scale is at least 1
abbrev pub is_positive : ℤ → Bool
is_positive (pos n) = nat_lt 0 n
is_positive (negsuc n) = false
