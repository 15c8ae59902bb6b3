-- The numbers of options.
--   IsFromTo         the number is in a range
--   is_number        one to twenty digits, and nothing else
--   number_in        the number of the text, where it is in a range
--   number_or        the same of an option, with the number that stands where it is left out
--   number_given     the same of an option that must not be left out
use Rattle.std.specs.Prelude.{◌≤◌, ℕ, Bool, ◌&&◌, nat_le, length, Option, None, Some, if◌then◌else◌, option_and_then}
use Rattle.std.specs.Char.{is_ascii_digit}
use Rattle.std.specs.List.{list_all}
use Rattle.std.specs.Str.Parse.{digits_value}
use Rattle.sweet_words.specs.Forms.{Text}

-- the number is from the least to the most
pub record IsFromTo (least most n : ℕ) : Type 0 where
  pub least_is : least ≤ n
  pub most_is : n ≤ most

-- one to twenty digits, and nothing else
abbrev pub is_number : Text → Bool
is_number text = nat_le 1 (length text) && (nat_le (length text) 20 && list_all is_ascii_digit text)

-- the number that the digits write, in decimal
abbrev pub number_of : Text → ℕ
number_of text = digits_value 10 text

-- the number of the text, from the least to the most
abbrev pub number_in : ℕ → ℕ → Text → Option ℕ
number_in least most text = if is_number text && (nat_le least (number_of text) && nat_le (number_of text) most) then Some (number_of text) else None

-- the same, or `other` where the option is left out
abbrev pub number_or : ℕ → ℕ → ℕ → Option Text → Option ℕ
number_or other least most None = Some other
number_or other least most (Some text) = number_in least most text

-- the same, where the option must not be left out
abbrev pub number_given : ℕ → ℕ → Option Text → Option ℕ
number_given least most given = option_and_then (number_in least most) given
