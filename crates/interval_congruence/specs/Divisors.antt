-- Divisors.
--   IsDivisor b      b is not the word 0 alone
use Rattle.std.specs.Prelude.{◌≡◌, ◌≢◌, true}
use Rattle.strided_rules.specs.Strides.{Stride}
use Rattle.strided_rules.specs.Members.{is_one, word_of}

abbrev pub IsDivisor : Stride → Type 0
IsDivisor b = is_one b ≡ true → word_of b ≢ 0
