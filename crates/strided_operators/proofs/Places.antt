-- What the rules give can be placed.
use Rattle.std.proofs.Common.{◌≢◌, ℕ, ℤ, pos, negsuc, neg_ℤ, suc, ◌<◌, ◌^◌, arith}
use Rattle.std.specs.Prelude.{◌≤ℤ◌, ◌<ℤ◌, int_le, int_lt, int_div}
use Rattle.std.specs.Int.{int_div_euclid, int_max}
use Rattle.std.proofs.lemmas.Int.{ints, clamps}
use Rattle.std.proofs.Math.Nat.{div-le_self}
use Rattle.whole_numbers.specs.MultipleLaws.{by_test}
use Rattle.whole_numbers.specs.DivisionLaws.{rest_range}
use Rattle.progressions.specs.declared.ends.Progression.{Progression}
use Rattle.progressions.specs.Images.{quotients}
use Rattle.progressions.specs.Parts.{IsPiece}
use Rattle.progressions.specs.ImageLaws.{quotients_is}
use Rattle.strided_rules.specs.Rules.{toward_zero, rests, signed_rests, least_rest, greatest_rest, ratios, lesser, greater}
use Rattle.strided_rules.specs.RuleLaws.{toward_zero_is, rests_is, signed_rests_is, ratios_is, lesser_is, greater_is}
use Rattle.strided_operators.specs.Limits.{CanPlace}

pub far_places : (p : Progression) → IsPiece (neg_ℤ (pos (2 ^ 64))) (pos (2 ^ 64)) p → CanPlace p
far_places p i = record { progression = i.progression; low = omega (arith, ints, i.low, i.progression.order); high = omega (arith, ints, i.high, i.progression.order) }

-- a divisor of 1 or more moves no number away from 0
near : (d : ℕ) (x : ℤ) → 0 < d → neg_ℤ (pos (2 ^ 64)) ≤ℤ x → x ≤ℤ pos (2 ^ 64)
    → (neg_ℤ (pos (2 ^ 65)) ≤ℤ int_div_euclid x (pos d)) × (int_div_euclid x (pos d) ≤ℤ pos (2 ^ 65))
near d (pos n) positive p q = (omega (arith, ints), omega (arith, ints, q, div-le_self n d))
near d (negsuc n) positive p q = (omega (arith, ints, p, div-le_self n d), omega (arith, ints))

near_at : (d x : ℤ) → pos 0 <ℤ d → neg_ℤ (pos (2 ^ 64)) ≤ℤ x → x ≤ℤ pos (2 ^ 64)
    → (neg_ℤ (pos (2 ^ 65)) ≤ℤ int_div_euclid x d) × (int_div_euclid x d ≤ℤ pos (2 ^ 65))
near_at (pos d) x positive p q = near d x (omega (arith, ints, positive)) p q
near_at (negsuc d) x positive p q = absurd (omega (arith, ints, positive))

pub quotients_place : (d : ℤ) (p : Progression) → pos 0 <ℤ d → IsPiece (neg_ℤ (pos (2 ^ 64))) (pos (2 ^ 64)) p
    → CanPlace (quotients d p)
unfolding quotients
quotients_place (pos d) p positive i =
    let a = near_at (pos d) p.lo positive i.low (omega (arith, ints, i.progression.order, i.high)) in
    let b = near_at (pos d) p.hi positive (omega (arith, ints, i.progression.order, i.low)) i.high in
    record { progression = quotients_is d p (omega (arith, ints, positive)) i.progression; low = omega (arith, ints, a.0); high = omega (arith, ints, b.1) }
quotients_place (negsuc d) p positive i = absurd (omega (arith, ints, positive))

pub near_zero : (x d : ℤ) → d ≢ pos 0 → neg_ℤ (pos (2 ^ 64)) ≤ℤ x → x ≤ℤ pos (2 ^ 64)
    → (neg_ℤ (pos (2 ^ 64)) ≤ℤ int_div x d) × (int_div x d ≤ℤ pos (2 ^ 64))
near_zero (pos a) (pos d) some p q = (omega (arith, ints), omega (arith, ints, q, div-le_self a d))
near_zero (pos a) (negsuc d) some p q = (omega (arith, ints, q, div-le_self a (suc d)), omega (arith, ints))
near_zero (negsuc a) (pos d) some p q = (omega (arith, ints, p, div-le_self (suc a) d), omega (arith, ints))
near_zero (negsuc a) (negsuc d) some p q = (omega (arith, ints), omega (arith, ints, p, div-le_self (suc a) (suc d)))

pub toward_zero_place : (d : ℤ) (p : Progression) → d ≢ pos 0 → IsPiece (neg_ℤ (pos (2 ^ 64))) (pos (2 ^ 64)) p
    → CanPlace (toward_zero d p)
unfolding toward_zero
toward_zero_place d p some i =
    let a = near_zero p.lo d some i.low (omega (arith, ints, i.progression.order, i.high)) in
    let b = near_zero p.hi d some (omega (arith, ints, i.progression.order, i.low)) i.high in
    record { progression = toward_zero_is d p; low = omega (arith, ints, clamps, a.0, b.0); high = omega (arith, ints, clamps, a.1, b.1) }

pub rests_place : (d : ℤ) (p : Progression) → pos 0 <ℤ d → d ≤ℤ pos (2 ^ 64)
    → IsPiece (neg_ℤ (pos (2 ^ 64))) (pos (2 ^ 64)) p → CanPlace (rests d p)
unfolding rests
rests_place (pos d) p positive small i =
    let above : 0 < d = omega (arith, ints, positive) in
    let is = rests_is d p above i.progression in
    let a = rest_range p.lo d above in
    let b = rest_range p.hi d above in
    by_test (int_le (int_div_euclid p.hi (pos d)) (int_div_euclid p.lo (pos d)))
    (λ e. rw e (let one = rw e at is in record { progression = one; low = omega (arith, ints, a.0); high = omega (arith, ints, b.1, small) }))
    (λ e. rw e (let one = rw e at is in record { progression = one; low = omega (arith, ints); high = omega (arith, ints, small) }))
rests_place (negsuc d) p positive small i = absurd (omega (arith, ints, positive))

pub signed_rests_place : (e : ℤ) (p : Progression) → pos 0 <ℤ e → e ≤ℤ pos (2 ^ 64)
    → IsPiece (neg_ℤ (pos (2 ^ 64))) (pos (2 ^ 64)) p → CanPlace (signed_rests e p)
unfolding signed_rests
signed_rests_place (pos e) p positive small i =
    let is = signed_rests_is (pos e) p (omega (arith, ints, positive)) in
    let a : neg_ℤ (pos (2 ^ 64)) ≤ℤ least_rest (pos e) p.lo = by_test (int_lt p.lo (pos 0)) (λ t. rw t (omega (arith, ints, clamps, i.low))) (λ t. rw t (omega (arith, ints))) in
    let b : greatest_rest (pos e) p.hi ≤ℤ pos (2 ^ 64) = by_test (int_lt (pos 0) p.hi) (λ t. rw t (omega (arith, ints, clamps, i.high))) (λ t. rw t (omega (arith, ints))) in
    record { progression = is; low = omega (arith, ints, a); high = omega (arith, ints, b) }
signed_rests_place (negsuc e) p positive small i = absurd (omega (arith, ints, positive))

pub ratios_place : (p q : Progression) → IsPiece (pos 0) (pos (2 ^ 64)) p → IsPiece (pos 0) (pos (2 ^ 64)) q
    → CanPlace (ratios p q)
unfolding ratios
ratios_place p q i j =
    let a = near_at (int_max q.hi (pos 1)) p.lo (omega (arith, ints, clamps)) (omega (arith, ints, i.low)) (omega (arith, ints, i.progression.order, i.high)) in
    let b = near_at (int_max q.lo (pos 1)) p.hi (omega (arith, ints, clamps)) (omega (arith, ints, i.progression.order, i.low)) i.high in
    record { progression = ratios_is p q i.low i.progression j.progression; low = omega (arith, ints, a.0); high = omega (arith, ints, b.1) }

pub lesser_place : (p q : Progression) → IsPiece (neg_ℤ (pos (2 ^ 64))) (pos (2 ^ 64)) p
    → IsPiece (neg_ℤ (pos (2 ^ 64))) (pos (2 ^ 64)) q → CanPlace (lesser p q)
unfolding lesser
lesser_place p q i j = record { progression = lesser_is p q i.progression j.progression; low = omega (arith, ints, clamps, i.low, j.low); high = omega (arith, ints, clamps, i.high, j.high) }

pub greater_place : (p q : Progression) → IsPiece (neg_ℤ (pos (2 ^ 64))) (pos (2 ^ 64)) p
    → IsPiece (neg_ℤ (pos (2 ^ 64))) (pos (2 ^ 64)) q → CanPlace (greater p q)
unfolding greater
greater_place p q i j = record { progression = greater_is p q i.progression j.progression; low = omega (arith, ints, clamps, i.low, j.low); high = omega (arith, ints, clamps, i.high, j.high) }
