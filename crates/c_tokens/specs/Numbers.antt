-- Preprocessing numbers: what a number goes on with.
--   goes_on exponent b            a letter, a digit, an underscore or a period goes on a number, and right after e, E, p or P also a sign
--   is_number_rest exponent bytes all of the bytes go on a number
--   number_len exponent bytes     how many bytes go on a number
use Rattle.std.specs.Prelude.{ℕ, suc, ◌==◌, List, [], ◌∷◌, Bool, true, ◌&&◌, ◌||◌, if◌then◌else◌}
use Rattle.std.specs.Char.{is_ascii_digit}
use Rattle.c_tokens.specs.Bytes.{is_word_byte}

-- e, E, p or P
abbrev pub marks_exponent : ℕ → Bool
marks_exponent b = (b == 101) || (b == 69) || (b == 112) || (b == 80)

abbrev pub is_sign : ℕ → Bool
is_sign b = (b == 43) || (b == 45)

abbrev pub goes_on : Bool → ℕ → Bool
goes_on exponent b = is_word_byte b || (b == 46) || (exponent && is_sign b)

abbrev pub is_number_rest : Bool → List ℕ → Bool
is_number_rest exponent [] = true
is_number_rest exponent (b ∷ bs) = goes_on exponent b && is_number_rest (marks_exponent b) bs

abbrev pub number_len : Bool → List ℕ → ℕ
number_len exponent [] = 0
number_len exponent (b ∷ bs) = if goes_on exponent b then suc (number_len (marks_exponent b) bs) else 0

-- a digit, or a period and a digit
abbrev pub starts_number : ℕ → ℕ → Bool
starts_number b c = is_ascii_digit b || ((b == 46) && is_ascii_digit c)
