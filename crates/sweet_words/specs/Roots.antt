-- The name of the function that a program starts with, by its word.
--   is_name_byte    a byte that a name may have: a printable one, and neither a quotation mark nor a backslash
--   is_name         1 to 64 such bytes
--   name_or_main    what the option says, where that may be a name, and `main` where it is left out
use Rattle.std.specs.Prelude.{ℕ, Bool, ◌&&◌, ◌==◌, not, nat_le, length, Option, None, Some, if◌then◌else◌, codes}
use Rattle.std.specs.List.{list_all}
use Rattle.sweet_words.specs.Forms.{Text}

-- a byte that a name may have: 0x20 to 0x7E, and neither a quotation mark nor a backslash
abbrev pub is_name_byte : ℕ → Bool
is_name_byte b = nat_le 32 b && (nat_le b 126 && (not (b == 34) && not (b == 92)))

-- 1 to 64 such bytes
abbrev pub is_name : Text → Bool
is_name text = nat_le 1 (length text) && (nat_le (length text) 64 && list_all is_name_byte text)

-- what the option says, where that may be a name, and `main` where it is left out
abbrev pub name_or_main : Option Text → Option Text
name_or_main None = Some (codes "main")
name_or_main (Some name) = if is_name name then Some name else None
