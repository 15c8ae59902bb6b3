-- Numbers that fit into bytes.
--   AreSmall counts   each number is below 256
use Rattle.std.specs.Prelude.{◌<◌, ℕ, List, All}

-- each number is below 256
abbrev pub AreSmall : List ℕ → Type 0
AreSmall counts = All (λ c. c < 256) counts
