-- The punctuators of C99, digraphs among them.
--   is_single, is_pair, is_triple, is_quadruple   the bytes are a punctuator of one to four bytes
--   is_punctuator text                            the text is a punctuator
use Rattle.std.specs.Prelude.{ℕ, ◌==◌, List, [], ◌∷◌, Bool, false, ◌&&◌, ◌||◌, codes}
use Rattle.c_tokens.specs.Bytes.{among}

abbrev pub is_single : ℕ → Bool
is_single a = among a (codes "[](){}.&*+-~!/%<>^|?:;=,#")

-- an operator and =, a byte twice, and -> :> %> <: %: <%
abbrev pub is_pair : ℕ → ℕ → Bool
is_pair a b =
    ((b == 61) && among a (codes "<>=!*/%+-&^|"))
    || (among b (codes "+-<>&|#") && (b == a))
    || ((b == 62) && among a (codes "-:%"))
    || ((b == 58) && among a (codes "<%"))
    || ((b == 37) && (a == 60))

-- ... <<= >>=
abbrev pub is_triple : ℕ → ℕ → ℕ → Bool
is_triple a b c =
    ((c == 46) && (b == 46) && (a == 46))
    || ((c == 61) && (b == 60) && (a == 60))
    || ((c == 61) && (b == 62) && (a == 62))

-- %:%:
abbrev pub is_quadruple : ℕ → ℕ → ℕ → ℕ → Bool
is_quadruple a b c d = (d == 58) && (c == 37) && (b == 58) && (a == 37)

abbrev pub is_punctuator : List ℕ → Bool
is_punctuator (a ∷ []) = is_single a
is_punctuator (a ∷ b ∷ []) = is_pair a b
is_punctuator (a ∷ b ∷ c ∷ []) = is_triple a b c
is_punctuator (a ∷ b ∷ c ∷ d ∷ []) = is_quadruple a b c d
is_punctuator _ = false
