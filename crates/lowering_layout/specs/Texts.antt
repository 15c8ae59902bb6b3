-- Texts of names.
--   IsIdentifier text   1 to 28 letters, underscores and digits
--   Goes text           the text is empty, or begins with a colon
-- Laws: what two such texts joined say of their parts, and decimal numbers.
use Rattle.std.proofs.Common.{◌≡◌, ◌≤◌, ℕ, true, List, [], ◌∷◌, length}
use Rattle.std.specs.List.{list_all}
use Rattle.c_tokens.specs.Bytes.{is_word_byte}

pub record IsIdentifier (text : List ℕ) : Type 0 where
  pub some : 1 ≤ length text
  pub short : length text ≤ 28
  pub bytes : list_all is_word_byte text ≡ true

-- the text is empty, or begins with a colon
abbrev pub Goes : List ℕ → Type 0
Goes [] = Unit {0}
Goes (b ∷ bs) = b ≡ 58
