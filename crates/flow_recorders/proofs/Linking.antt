-- Numbers put one by one before those of their key.
use Rattle.std.proofs.Common.{◌≡◌, ◌<◌, ℕ, List, Option, true, length, arith}
use Rattle.recorder_rules.specs.TallyRules.{key_at, is_at}
use Rattle.flow_recorders.specs.Chained.{IsNext}

-- from a number with the key on, it is the next itself
next_here : (keys : List (Option ℕ)) (k i : ℕ) → i < length keys → is_at (key_at keys i) k ≡ true → IsNext keys k i i
next_here keys k i low is = record { least = omega arith; most = omega arith; has = λ _. is; none = λ x least below. absurd (omega arith) }
