-- Words of more bits than the machine's.
use Rattle.std.proofs.Common.{◌≡◌, ◌<◌, ◌≤◌, ◌-◌, ◌^◌, ℕ, pos, true, refl, arith}
use Rattle.std.proofs.Math.Nat.{pow-le-pow_right}
use Rattle.std.specs.Prelude.{nat_lt}
use Rattle.std.proofs.lemmas.Bool.{lt-ltb}
use Rattle.alf_ops.specs.TwosComplement.{signed}

-- a word of 64 bits is below half of the words of more than 64
pub signed_wide : (size bits : ℕ) → 64 < size → bits < 2 ^ 64 → signed size bits ≡ pos bits
signed_wide size bits wide low =
    let grown : 2 ^ 64 ≤ 2 ^ (size - 1) = pow-le-pow_right (omega arith) {i = 64} {j = size - 1} (omega arith) in
    let test : nat_lt bits (2 ^ (size - 1)) ≡ true = lt-ltb bits (2 ^ (size - 1)) (omega arith) in
    rw test refl
