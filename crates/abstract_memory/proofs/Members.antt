-- The offsets of a pointer are numbers of its progression, as they are or one turn up or down.
--   AnyTurn p t       t is such an offset
--   covers_turn, turn_covers   these are the offsets
--   next_found        so the least of the three is the next offset
use Rattle.std.proofs.Common.{◌≡◌, ◌⊎◌, inl, inr, ℕ, pos, Option, ◌<◌, ◌^◌, sym, subst, arith}
use Rattle.std.specs.Prelude.{◌-ℤ◌, neg_ℤ}
use Rattle.std.proofs.lemmas.Int.{ints}
use Rattle.whole_numbers.specs.MultipleLaws.{divides_same, divides_difference, divides_zero, divides_itself}
use Rattle.progressions.specs.declared.ends.Progression.{Progression}
use Rattle.progressions.specs.Progressions.{Has, IsPlaced, full}
use Rattle.strided_rules.specs.Strides.{Stride, IsMember, Covers}
use Rattle.strided_rules.specs.PlacedLaws.{member_below, member_other}
use Rattle.strided_rules.specs.MemberLaws.{three_numbers}
use Rattle.abstract_memory.specs.NextOffsets.{IsTurned, Finds, lesser_of}
use Rattle.abstract_memory.proofs.Finding.{lesser_finds, finds_same}

-- t is a number as it is, or one turn up or down
abbrev AnyTurn : Progression → ℕ → Type 0
AnyTurn p t = (IsTurned p (pos 0) t ⊎ IsTurned p (pos (2 ^ 32)) t) ⊎ IsTurned p (neg_ℤ (pos (2 ^ 32))) t

member_turn : (p : Progression) (t : ℕ) → IsPlaced 32 p → IsMember 32 p t → AnyTurn p t
member_turn p t placed member =
    let small : t < 2 ^ 32 = member_below 32 p t member in
    elim (three_numbers 32 p t (omega arith) placed member) [
      | inl h ↦ inl (inr (h, small))
      | inr (inl h) ↦ inl (inl (subst (Has p) (omega (arith, ints)) h, small))
      | inr (inr h) ↦ inr (subst (Has p) (omega (arith, ints)) h, small)
    ]

turn_member : (p : Progression) (t : ℕ) → AnyTurn p t → IsMember 32 p t
turn_member p t (inl (inl h)) = member_other 32 p t (pos t -ℤ pos 0) h.0 (divides_same (full 32) (pos 0) ((pos t -ℤ pos 0) -ℤ pos t) (omega (arith, ints)) (divides_zero (full 32))) h.1
turn_member p t (inl (inr h)) =
    member_other 32 p t (pos t -ℤ full 32) h.0
    (divides_same (full 32) (pos 0 -ℤ full 32) ((pos t -ℤ full 32) -ℤ pos t) (omega (arith, ints)) (divides_difference (full 32) (pos 0) (full 32) (divides_zero (full 32)) (divides_itself (full 32)))) h.1
turn_member p t (inr h) =
    member_other 32 p t (pos t -ℤ neg_ℤ (full 32)) h.0 (divides_same (full 32) (full 32) ((pos t -ℤ neg_ℤ (full 32)) -ℤ pos t) (omega (arith, ints)) (divides_itself (full 32))) h.1

pub next_found : (x : Stride) (p : Progression) (from : ℕ) (here raised lowered : Option ℕ) → x.size ≡ 32
    → p ≡ x.numbers → IsPlaced 32 p
    → Finds (IsTurned p (pos 0)) from here → Finds (IsTurned p (pos (2 ^ 32))) from raised → Finds (IsTurned p (neg_ℤ (pos (2 ^ 32)))) from lowered
    → Finds (Covers x) from (lesser_of (lesser_of here raised) lowered)
next_found x p from here raised lowered size same placed a b c =
    subst (λ (q : Progression). Finds (IsMember x.size q) from (lesser_of (lesser_of here raised) lowered)) same
    (subst (λ (w : ℕ). Finds (IsMember w p) from (lesser_of (lesser_of here raised) lowered)) (sym size)
    (finds_same (AnyTurn p) (IsMember 32 p) from (lesser_of (lesser_of here raised) lowered) (turn_member p) (λ t. member_turn p t placed)
    (lesser_finds (λ t. IsTurned p (pos 0) t ⊎ IsTurned p (pos (2 ^ 32)) t) (IsTurned p (neg_ℤ (pos (2 ^ 32)))) from (lesser_of here raised) lowered
    (lesser_finds (IsTurned p (pos 0)) (IsTurned p (pos (2 ^ 32))) from here raised a b) c)))
