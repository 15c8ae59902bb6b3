-- Where comments and literals end.
--   end_of ends next s bytes   how many bytes there are up to and with the first that ends what stands here,
--                              where `next` tells what the bytes before it leave open, or that nothing goes on so
--   comment_end bytes          up to the end of a comment, after its slash and star
--   literal_end q bytes        up to the quote that closes a literal, after the quote q that opens it
--   is_end end bytes           it ends with the last of the bytes
use Rattle.std.specs.Prelude.{ℕ, suc, ◌-◌, ◌==◌, List, [], ◌∷◌, length, Bool, false, ◌&&◌, Option, Some, None, nat_le, if◌then◌else◌, codes}
use Rattle.std.specs.Char.{is_ascii_hexdigit}
use Rattle.c_tokens.specs.declared.literals.Inside.{Inside}
use Rattle.c_tokens.specs.declared.literals.Inside.TheVariants as inside
use Rattle.c_tokens.specs.Bytes.{is_line_feed, among}

abbrev pub one_more : Option ℕ → Option ℕ
one_more None = None
one_more (Some n) = Some (suc n)

abbrev pub on : {S A : Type 0} → A → Option S → (S → A) → A
on otherwise None f = otherwise
on otherwise (Some s) f = f s

abbrev pub end_of : {S : Type 0} → (S → ℕ → Bool) → (S → ℕ → Option S) → S → List ℕ → Option ℕ
end_of ends next s [] = None
end_of ends next s (b ∷ bs) = if ends s b then Some 1 else one_more (on None (next s b) (λ t. end_of ends next t bs))

-- the bytes are as many as there are up to the end
abbrev pub is_end : Option ℕ → List ℕ → Bool
is_end None bytes = false
is_end (Some n) bytes = n == length bytes

-- ---- comments: a star was the last byte, or not

abbrev pub closes_comment : Bool → ℕ → Bool
closes_comment star b = star && (b == 47)

abbrev pub goes_on_in_comment : Bool → ℕ → Option Bool
goes_on_in_comment star b = Some (b == 42)

abbrev pub comment_end : List ℕ → Option ℕ
comment_end bytes = end_of closes_comment goes_on_in_comment false bytes

-- ---- literals

-- a character constant is not empty
abbrev pub start_of : ℕ → Inside
start_of q = if q == 39 then inside.First else inside.Within

abbrev pub closes_literal : ℕ → Inside → ℕ → Bool
closes_literal q inside.Within b = b == q
closes_literal q _ b = false

-- no line feed; a backslash begins an escape
abbrev pub after_byte : ℕ → Option Inside
after_byte b = if is_line_feed b then None else if b == 92 then Some inside.Escape else Some inside.Within

-- a quote, a question mark, a backslash, a letter of a control character, an octal digit; or so many hexadecimal digits
-- are due
abbrev pub after_backslash : ℕ → Option Inside
after_backslash b =
    if among b (34 ∷ 39 ∷ 63 ∷ 92 ∷ codes "abfnrtv01234567") then Some inside.Within
    else if b == 120 then Some (inside.Digits 1)
    else if b == 117 then Some (inside.Digits 4)
    else if b == 85 then Some (inside.Digits 8) else None

abbrev pub one_digit_less : ℕ → Inside
one_digit_less n = if nat_le n 1 then inside.Within else inside.Digits (n - 1)

abbrev pub goes_on_in_literal : ℕ → Inside → ℕ → Option Inside
goes_on_in_literal q inside.First b = if b == q then None else after_byte b
goes_on_in_literal q inside.Within b = after_byte b
goes_on_in_literal q inside.Escape b = after_backslash b
goes_on_in_literal q (inside.Digits n) b = if is_ascii_hexdigit b then Some (one_digit_less n) else None

abbrev pub literal_end : ℕ → List ℕ → Option ℕ
literal_end q bytes = end_of (closes_literal q) (goes_on_in_literal q) (start_of q) bytes
