-- What tokens are worth as constants.
--   digit_of b               the value of a digit, of which letters go on after 9
--   number_from base some n bytes   the number that digits write after n, and whether a `u` ends it; `some` says that a digit has been read
--   judge base number        a plain decimal number is an `int`; another may be an `unsigned int`, and is one with a `u`
--   number_worth text        decimal digits; or a 0 and octal digits; or a 0, an x and hexadecimal digits
--   character_worth text     a printable byte between quotes, or one of five escapes
--   worth_of kind text       what a token of this kind is worth
use Rattle.std.specs.Prelude.{ℕ, ◌+◌, ◌-◌, ◌*◌, ◌==◌, List, [], ◌∷◌, Bool, true, false, not, ◌&&◌, ◌||◌, Option, Some, None, nat_le, nat_lt, if◌then◌else◌}
use Rattle.std.specs.Int.{is_in_range}
use Rattle.c_tokens.specs.declared.token.Kind.{Kind}
use Rattle.c_tokens.specs.declared.token.Kind.TheVariants as kinds
use Rattle.c_tokens.specs.declared.worth.Worth.{Worth}
use Rattle.c_tokens.specs.declared.worth.Worth.TheVariants as worth

-- ---- numbers

abbrev pub digit_of : ℕ → Option ℕ
digit_of b =
    if is_in_range 48 57 b then Some (b - 48)
    else if is_in_range 97 102 b then Some (b - 87)
    else if is_in_range 65 70 b then Some (b - 55) else None

abbrev pub below : ℕ → Option ℕ → Option ℕ
below base None = None
below base (Some d) = if nat_lt d base then Some d else None

-- a digit of a base up to 16
abbrev pub digit_in : ℕ → ℕ → Option ℕ
digit_in base b = below base (digit_of b)

abbrev pub is_last : ℕ → List ℕ → Bool
is_last b [] = (b == 117) || (b == 85)
is_last b (c ∷ cs) = false

abbrev pub at_end : Bool → ℕ → Bool → Option (ℕ × Bool)
at_end some n suffix = if some then Some (n, suffix) else None

abbrev pub on_digit : Option ℕ → Option (ℕ × Bool) → (ℕ → Option (ℕ × Bool)) → Option (ℕ × Bool)
on_digit None otherwise f = otherwise
on_digit (Some d) otherwise f = f d

abbrev pub number_from : ℕ → Bool → ℕ → List ℕ → Option (ℕ × Bool)
number_from base some n [] = at_end some n false
number_from base some n (b ∷ bs) = on_digit (digit_in base b) (at_end (some && is_last b bs) n true) (λ d. number_from base true (n * base + d) bs)

abbrev pub most_int : ℕ
most_int = 2147483647

abbrev pub most_unsigned : ℕ
most_unsigned = 4294967295

abbrev pub unsigned_worth : ℕ → Worth
unsigned_worth n = if nat_le n most_unsigned then worth.UnsignedInt n else worth.TooLarge

abbrev pub plain_worth : Bool → ℕ → Worth
plain_worth decimal n = if nat_le n most_int then worth.Int n else if decimal then worth.TooLarge else unsigned_worth n

abbrev pub judge : ℕ → Option (ℕ × Bool) → Worth
judge base None = worth.NoConstant
judge base (Some r) = if r.1 then unsigned_worth r.0 else plain_worth (base == 10) r.0

abbrev pub zero_worth : List ℕ → Worth
zero_worth [] = worth.Int 0
zero_worth (x ∷ bs) = if (x == 120) || (x == 88) then judge 16 (number_from 16 false 0 bs) else judge 8 (number_from 8 true 0 (x ∷ bs))

abbrev pub number_worth : List ℕ → Worth
number_worth [] = worth.NoConstant
number_worth (b ∷ bs) = if b == 48 then zero_worth bs else judge 10 (number_from 10 false 0 (b ∷ bs))

-- ---- characters

-- from the space to the tilde, but no quote and no backslash
abbrev pub plain_character : ℕ → Worth
plain_character c = if is_in_range 32 126 c && not (c == 39) && not (c == 92) then worth.Int c else worth.NoConstant

-- n, t, 0, a backslash and a quote
abbrev pub escaped_character : ℕ → Worth
escaped_character e =
    if e == 110 then worth.Int 10
    else if e == 116 then worth.Int 9
    else if e == 48 then worth.Int 0
    else if (e == 92) || (e == 39) then worth.Int e
    else worth.NoConstant

abbrev pub character_worth : List ℕ → Worth
character_worth (q ∷ c ∷ r ∷ []) = if (q == 39) && (r == 39) then plain_character c else worth.NoConstant
character_worth (q ∷ s ∷ e ∷ r ∷ []) = if (q == 39) && (s == 92) && (r == 39) then escaped_character e else worth.NoConstant
character_worth _ = worth.NoConstant

abbrev pub worth_of : Kind → List ℕ → Worth
worth_of kinds.Number text = number_worth text
worth_of kinds.Character text = character_worth text
worth_of _ text = worth.NoConstant
