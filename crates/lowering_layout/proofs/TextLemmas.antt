-- Laws of texts.
use Rattle.std.proofs.Common.{◌≡◌, false, refl}
use Rattle.c_tokens.specs.Bytes.{is_word_byte}

-- ---- bytes

pub no_dollar : is_word_byte 36 ≡ false
no_dollar = refl
