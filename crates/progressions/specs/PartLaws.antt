-- Laws of parts: each has just the numbers that its name says.
--   from_least_has, up_to_has, between_has   the numbers of p from least on, up to greatest, both
--   from_least_is, up_to_is, between_is      and they are progressions
--   without_first_has, without_last_has, with .._is   all but the low end, all but the high end
--   moved_has, moved_is, moved_part_has      a progression and a number added
--   unsigned_has, signed_has                 the pieces have the numbers of the range that some number of p is modulo 2 to the size
--   unsigned_are, signed_are                 and lie in the range
use Rattle.std.proofs.Common.{◌≡◌, ◌≢◌, ℕ, ℤ, pos, neg_ℤ, ◌≤◌, arith, inl, inr, Option, Some, None, ⊎_elim, ◌↔◌}
use Rattle.std.specs.Prelude.{◌+ℤ◌, ◌-ℤ◌, ◌≤ℤ◌, ◌<ℤ◌, int_le, int_lt, ◌⊎◌}
use Rattle.std.specs.Int.{int_rem_euclid}
use Rattle.std.proofs.lemmas.Int.{ints}
use Rattle.whole_numbers.specs.Numbers.{Divides}
use Rattle.whole_numbers.specs.MultipleLaws.{by_test, divides_same, divides_sum, divides_difference, divides_itself, divides_zero}
use Rattle.whole_numbers.specs.DivisionLaws.{rest_of, not_negative, divides_at_most}
use Rattle.progressions.specs.declared.ends.Progression.{Progression}
use Rattle.progressions.specs.Progressions.{Has, IsProgression, IsPlaced, HasSome, IfProgression, full, half}
use Rattle.progressions.specs.Images.{moved}
use Rattle.progressions.specs.Parts.{from_least, up_to, between, part_up_to, risen, sunk, without_first, without_last, moved_part, unsigned_pieces, signed_pieces, SomeHas, IfPiece, ArePieces}
use Rattle.progressions.specs.ProgressionLaws.{is_from_to, has_from_to, from_to_aligned, has_lo, has_hi, step_positive, halves}

-- A number added.

pub moved_has : (d : ℤ) (p : Progression) (n : ℤ) → Has (moved d p) n ↔ Has p (n -ℤ d)
moved_has d p n = (
  λ h. record { least = omega (arith, ints, h.least); most = omega (arith, ints, h.most); aligned = divides_same p.step (n -ℤ (p.lo +ℤ d)) ((n -ℤ d) -ℤ p.lo) (omega (arith, ints)) h.aligned },
  λ h. record { least = omega (arith, ints, h.least); most = omega (arith, ints, h.most); aligned = divides_same p.step ((n -ℤ d) -ℤ p.lo) (n -ℤ (p.lo +ℤ d)) (omega (arith, ints)) h.aligned },
)

pub moved_is : (d : ℤ) (p : Progression) → IsProgression p → IsProgression (moved d p)
moved_is d p r = record {
  order = omega (arith, ints, r.order);
  rising = r.rising;
  aligned = divides_same p.step (p.hi -ℤ p.lo) ((p.hi +ℤ d) -ℤ (p.lo +ℤ d)) (omega (arith, ints)) r.aligned;
  lone = λ e. r.lone (omega (arith, ints, e));
}

pub moved_part_has : (d : ℤ) (o : Option Progression) (n : ℤ) → HasSome (moved_part d o) n ↔ HasSome o (n -ℤ d)
moved_part_has d None n = (λ h. h, λ h. h)
moved_part_has d (Some p) n = moved_has d p n

-- From a least number on.

risen_aligned : (least : ℤ) (p : Progression) → pos 0 <ℤ p.step → Divides p.step (risen least p -ℤ p.lo)
risen_aligned least p positive = let r = rest_of (p.lo -ℤ least) p.step positive in
    divides_same p.step (pos 0 -ℤ ((p.lo -ℤ least) -ℤ int_rem_euclid (p.lo -ℤ least) p.step)) (risen least p -ℤ p.lo) (omega (arith, ints))
    (divides_difference p.step (pos 0) ((p.lo -ℤ least) -ℤ int_rem_euclid (p.lo -ℤ least) p.step) (divides_zero p.step) r.2)

sunk_aligned : (greatest : ℤ) (p : Progression) → pos 0 <ℤ p.step → Divides p.step (sunk greatest p -ℤ p.lo)
sunk_aligned greatest p positive = let r = rest_of (greatest -ℤ p.lo) p.step positive in
    divides_same p.step ((greatest -ℤ p.lo) -ℤ int_rem_euclid (greatest -ℤ p.lo) p.step) (sunk greatest p -ℤ p.lo) (omega (arith, ints)) r.2

-- two numbers of one alignment differ by a multiple
apart : (d c x y : ℤ) → Divides d (x -ℤ c) → Divides d (y -ℤ c) → Divides d (x -ℤ y)
apart d c x y a b = divides_same d ((x -ℤ c) -ℤ (y -ℤ c)) (x -ℤ y) (omega (arith, ints)) (divides_difference d (x -ℤ c) (y -ℤ c) a b)

-- and what differs from an aligned number by a multiple is aligned
along : (d c x y : ℤ) → Divides d (x -ℤ y) → Divides d (y -ℤ c) → Divides d (x -ℤ c)
along d c x y a b = divides_same d ((x -ℤ y) +ℤ (y -ℤ c)) (x -ℤ c) (omega (arith, ints)) (divides_sum d (x -ℤ y) (y -ℤ c) a b)

risen_least : (least n : ℤ) (p : Progression) → pos 0 <ℤ p.step → Has p n → least ≤ℤ n → risen least p ≤ℤ n
risen_least least n p positive h above =
    let r = rest_of (p.lo -ℤ least) p.step positive in
    let m = apart p.step p.lo n (risen least p) h.aligned (risen_aligned least p positive) in
    omega (arith, ints, not_negative p.step (n -ℤ risen least p) positive m (omega (arith, ints, r.1, above)))

sunk_most : (greatest n : ℤ) (p : Progression) → pos 0 <ℤ p.step → Has p n → n ≤ℤ greatest → n ≤ℤ sunk greatest p
sunk_most greatest n p positive h below =
    let r = rest_of (greatest -ℤ p.lo) p.step positive in
    let m = apart p.step p.lo (sunk greatest p) n (sunk_aligned greatest p positive) h.aligned in
    omega (arith, ints, not_negative p.step (sunk greatest p -ℤ n) positive m (omega (arith, ints, r.1, below)))

pub from_least_has : (least : ℤ) (p : Progression) (n : ℤ) → IsProgression p
    → HasSome (from_least least p) n ↔ (Has p n × (least ≤ℤ n))
unfolding from_least
from_least_has least p n is = by_test (int_le least p.lo)
    (λ all. rw all (λ h. (h, omega (arith, ints, all, h.least)), λ h. h.0))
    (λ some. by_test (int_lt p.hi least)
    (λ past. rw (some, past) (λ h. absurd h, λ h. absurd (omega (arith, ints, past, h.0.most, h.1))))
    (λ inside. let positive = step_positive p is (omega (arith, ints, some, inside)) in
    let r = rest_of (p.lo -ℤ least) p.step positive in
    let a = risen_aligned least p positive in
    rw (some, inside) (
      λ h. (
        record {
          least = omega (arith, ints, some, r.0, h.least);
          most = h.most;
          aligned = along p.step p.lo n (risen least p) (from_to_aligned (risen least p) p.hi p.step n h) a;
        },
        omega (arith, ints, r.0, h.least),
      ),
      λ h. has_from_to (risen least p) p.hi p.step n (risen_least least n p positive h.0 h.1) h.0.most (apart p.step p.lo n (risen least p) h.0.aligned a),
    )))

pub from_least_is : (least : ℤ) (p : Progression) → IsProgression p → IfProgression (from_least least p)
unfolding from_least
from_least_is least p is = by_test (int_le least p.lo)
    (λ all. rw all is)
    (λ some. by_test (int_lt p.hi least)
    (λ past. rw (some, past) tt)
    (λ inside. let positive = step_positive p is (omega (arith, ints, some, inside)) in
    rw (some, inside) (is_from_to (risen least p) p.hi p.step (risen_least least p.hi p positive (has_hi p is) (omega (arith, ints, inside))) is.rising
    (apart p.step p.lo p.hi (risen least p) is.aligned (risen_aligned least p positive)))))

pub up_to_has : (greatest : ℤ) (p : Progression) (n : ℤ) → IsProgression p
    → HasSome (up_to greatest p) n ↔ (Has p n × (n ≤ℤ greatest))
unfolding up_to
up_to_has greatest p n is = by_test (int_le p.hi greatest)
    (λ all. rw all (λ h. (h, omega (arith, ints, all, h.most)), λ h. h.0))
    (λ some. by_test (int_lt greatest p.lo)
    (λ past. rw (some, past) (λ h. absurd h, λ h. absurd (omega (arith, ints, past, h.0.least, h.1))))
    (λ inside. let positive = step_positive p is (omega (arith, ints, some, inside)) in
    let r = rest_of (greatest -ℤ p.lo) p.step positive in
    rw (some, inside) (
      λ h. (
        record {
          least = h.least;
          most = omega (arith, ints, some, r.0, h.most);
          aligned = from_to_aligned p.lo (sunk greatest p) p.step n h;
        },
        omega (arith, ints, r.0, h.most),
      ),
      λ h. has_from_to p.lo (sunk greatest p) p.step n h.0.least (sunk_most greatest n p positive h.0 h.1) h.0.aligned,
    )))

pub up_to_is : (greatest : ℤ) (p : Progression) → IsProgression p → IfProgression (up_to greatest p)
unfolding up_to
up_to_is greatest p is = by_test (int_le p.hi greatest)
    (λ all. rw all is)
    (λ some. by_test (int_lt greatest p.lo)
    (λ past. rw (some, past) tt)
    (λ inside. let positive = step_positive p is (omega (arith, ints, some, inside)) in
    rw (some, inside) (is_from_to p.lo (sunk greatest p) p.step (sunk_most greatest p.lo p positive (has_lo p is) (omega (arith, ints, inside))) is.rising
    (sunk_aligned greatest p positive))))

part_up_to_has : (greatest : ℤ) (o : Option Progression) (n : ℤ) → IfProgression o
    → HasSome (part_up_to greatest o) n ↔ (HasSome o n × (n ≤ℤ greatest))
part_up_to_has greatest None n is = (λ h. absurd h, λ h. h.0)
part_up_to_has greatest (Some p) n is = up_to_has greatest p n is

part_up_to_is : (greatest : ℤ) (o : Option Progression) → IfProgression o → IfProgression (part_up_to greatest o)
part_up_to_is greatest None is = tt
part_up_to_is greatest (Some p) is = up_to_is greatest p is

pub between_has : (least greatest : ℤ) (p : Progression) (n : ℤ) → IsProgression p
    → HasSome (between least greatest p) n ↔ (Has p n × (least ≤ℤ n) × (n ≤ℤ greatest))
between_has least greatest p n is =
    let a = from_least_has least p n is in
    let b = part_up_to_has greatest (from_least least p) n (from_least_is least p is) in (
      λ h. let c = b.0 h in let d = a.0 c.0 in (d.0, d.1, c.1),
      λ h. b.1 (a.1 (h.0, h.1), h.2),
    )

pub between_is : (least greatest : ℤ) (p : Progression) → IsProgression p → IfProgression (between least greatest p)
between_is least greatest p is = part_up_to_is greatest (from_least least p) (from_least_is least p is)

-- Without an end.

pub without_first_has : (p : Progression) (n : ℤ) → IsProgression p
    → HasSome (without_first p) n ↔ (Has p n × (n ≢ p.lo))
unfolding without_first
without_first_has p n is = by_test (int_lt p.lo p.hi)
    (λ more. let positive = step_positive p is (omega (arith, ints, more)) in
    rw more (
      λ h. (
        record {
          least = omega (arith, ints, positive, h.least);
          most = h.most;
          aligned = along p.step p.lo n (p.lo +ℤ p.step) (from_to_aligned (p.lo +ℤ p.step) p.hi p.step n h) (divides_same p.step p.step ((p.lo +ℤ p.step) -ℤ p.lo) (omega (arith, ints)) (divides_itself p.step));
        },
        λ e. omega (arith, ints, positive, h.least, e),
      ),
      λ h. let far = divides_at_most p.step (n -ℤ p.lo) h.0.aligned (by_test (int_lt p.lo n) (λ above. omega (arith, ints, above)) (λ not_. absurd (h.1 (omega (arith, ints, not_, h.0.least))))) is.rising in
          has_from_to (p.lo +ℤ p.step) p.hi p.step n (omega (arith, ints, far)) h.0.most
          (apart p.step p.lo n (p.lo +ℤ p.step) h.0.aligned (divides_same p.step p.step ((p.lo +ℤ p.step) -ℤ p.lo) (omega (arith, ints)) (divides_itself p.step))),
    ))
    (λ one. rw one (λ h. absurd h, λ h. h.1 (omega (arith, ints, one, h.0.least, h.0.most))))

pub without_first_is : (p : Progression) → IsProgression p → IfProgression (without_first p)
unfolding without_first
without_first_is p is = by_test (int_lt p.lo p.hi)
    (λ more. let far = divides_at_most p.step (p.hi -ℤ p.lo) is.aligned (omega (arith, ints, more)) is.rising in
    rw more (is_from_to (p.lo +ℤ p.step) p.hi p.step (omega (arith, ints, far)) is.rising
    (apart p.step p.lo p.hi (p.lo +ℤ p.step) is.aligned (divides_same p.step p.step ((p.lo +ℤ p.step) -ℤ p.lo) (omega (arith, ints)) (divides_itself p.step)))))
    (λ one. rw one tt)

-- the number before the high end is aligned
before_last : (p : Progression) → IsProgression p → Divides p.step ((p.hi -ℤ p.step) -ℤ p.lo)
before_last p is = divides_same p.step ((p.hi -ℤ p.lo) -ℤ p.step) ((p.hi -ℤ p.step) -ℤ p.lo) (omega (arith, ints)) (divides_difference p.step (p.hi -ℤ p.lo) p.step is.aligned (divides_itself p.step))

pub without_last_has : (p : Progression) (n : ℤ) → IsProgression p → HasSome (without_last p) n ↔ (Has p n × (n ≢ p.hi))
unfolding without_last
without_last_has p n is = by_test (int_lt p.lo p.hi)
    (λ more. let positive = step_positive p is (omega (arith, ints, more)) in
    rw more (
      λ h. (
        record {
          least = h.least;
          most = omega (arith, ints, positive, h.most);
          aligned = from_to_aligned p.lo (p.hi -ℤ p.step) p.step n h;
        },
        λ e. omega (arith, ints, positive, h.most, e),
      ),
      λ h. let far = divides_at_most p.step (p.hi -ℤ n) (apart p.step p.lo p.hi n is.aligned h.0.aligned) (by_test (int_lt n p.hi) (λ below. omega (arith, ints, below)) (λ not_. absurd (h.1 (omega (arith, ints, not_, h.0.most))))) is.rising in
          has_from_to p.lo (p.hi -ℤ p.step) p.step n h.0.least (omega (arith, ints, far)) h.0.aligned,
    ))
    (λ one. rw one (λ h. absurd h, λ h. h.1 (omega (arith, ints, one, h.0.least, h.0.most))))

pub without_last_is : (p : Progression) → IsProgression p → IfProgression (without_last p)
unfolding without_last
without_last_is p is = by_test (int_lt p.lo p.hi)
    (λ more. let far = divides_at_most p.step (p.hi -ℤ p.lo) is.aligned (omega (arith, ints, more)) is.rising in
    rw more (is_from_to p.lo (p.hi -ℤ p.step) p.step (omega (arith, ints, far)) is.rising (before_last p is)))
    (λ one. rw one tt)

-- The pieces of a progression in normal form.

pub unsigned_has : (w : ℕ) (p : Progression) (n : ℤ) → 1 ≤ w → IsPlaced w p
    → SomeHas (unsigned_pieces w p) n ↔ ((pos 0 ≤ℤ n) × (n <ℤ full w) × (Has p (n -ℤ full w) ⊎ (Has p n ⊎ Has p (n +ℤ full w))))
unsigned_has w p n positive placed =
    let is = placed.progression in
    let h = halves w positive in
    let low = moved_part_has (full w) (up_to (neg_ℤ (pos 1)) p) n in
    let low' = up_to_has (neg_ℤ (pos 1)) p (n -ℤ full w) is in
    let mid = between_has (pos 0) (full w -ℤ pos 1) p n is in
    let up = moved_part_has (neg_ℤ (full w)) (from_least (full w) p) n in
    let same : n -ℤ neg_ℤ (full w) ≡ n +ℤ full w = omega (arith, ints) in
    let up' = from_least_has (full w) p (n -ℤ neg_ℤ (full w)) is in (
      λ some. ⊎_elim
          (λ a. let b = low'.0 (low.0 a) in (omega (arith, ints, b.0.least, placed.low, h), omega (arith, ints, b.1), inl b.0))
          (λ rest. ⊎_elim
          (λ a. let b = mid.0 a in (b.1, omega (arith, ints, b.2), inr (inl b.0)))
          (λ a. let b = up'.0 (up.0 a) in (omega (arith, ints, b.1), omega (arith, ints, b.0.most, placed.once, placed.high, h), inr (inr (rw (← same) b.0))))
          rest)
          some,
      λ t. ⊎_elim
          (λ a. inl (low.1 (low'.1 (a, omega (arith, ints, t.1)))))
          (λ rest. ⊎_elim
          (λ a. inr (inl (mid.1 (a, t.0, omega (arith, ints, t.1)))))
          (λ a. inr (inr (up.1 (up'.1 (rw same a, omega (arith, ints, t.0))))))
          rest)
          t.2,
    )

pub signed_has : (w : ℕ) (p : Progression) (n : ℤ) → 1 ≤ w → IsPlaced w p
    → SomeHas (signed_pieces w p) n ↔ ((neg_ℤ (half w) ≤ℤ n) × (n <ℤ half w) × (Has p n ⊎ Has p (n +ℤ full w)))
signed_has w p n positive placed =
    let is = placed.progression in
    let h = halves w positive in
    let low = up_to_has (half w -ℤ pos 1) p n is in
    let up = moved_part_has (neg_ℤ (full w)) (from_least (half w) p) n in
    let same : n -ℤ neg_ℤ (full w) ≡ n +ℤ full w = omega (arith, ints) in
    let up' = from_least_has (half w) p (n -ℤ neg_ℤ (full w)) is in (
      λ some. ⊎_elim
          (λ a. let b = low.0 a in (omega (arith, ints, b.0.least, placed.low), omega (arith, ints, b.1), inl b.0))
          (λ rest. ⊎_elim
          (λ a. let b = up'.0 (up.0 a) in (omega (arith, ints, b.1, h), omega (arith, ints, b.0.most, placed.once, placed.high, h), inr (rw (← same) b.0)))
          (λ a. absurd a)
          rest)
          some,
      λ t. ⊎_elim
          (λ a. inl (low.1 (a, omega (arith, ints, t.1))))
          (λ a. inr (inl (up.1 (up'.1 (rw same a, omega (arith, ints, t.0, h))))))
          t.2,
    )

-- The pieces lie in the range.

-- the ends of a part are numbers of it
within : (least most : ℤ) (o : Option Progression) → IfProgression o
    → ((n : ℤ) → HasSome o n → (least ≤ℤ n) × (n ≤ℤ most)) → IfPiece least most o
within least most None is inside = tt
within least most (Some p) is inside = record { progression = is; low = (inside p.lo (has_lo p is)).0; high = (inside p.hi (has_hi p is)).1 }

moved_part_is : (d : ℤ) (o : Option Progression) → IfProgression o → IfProgression (moved_part d o)
moved_part_is d None is = tt
moved_part_is d (Some p) is = moved_is d p is

-- a number of a piece lies in the range
unsigned_range : (w : ℕ) (p : Progression) (n : ℤ) → 1 ≤ w → IsPlaced w p → SomeHas (unsigned_pieces w p) n
    → (pos 0 ≤ℤ n) × (n ≤ℤ (full w -ℤ pos 1))
unsigned_range w p n positive placed some = let t = (unsigned_has w p n positive placed).0 some in (t.0, omega (arith, ints, t.1))

signed_range : (w : ℕ) (p : Progression) (n : ℤ) → 1 ≤ w → IsPlaced w p → SomeHas (signed_pieces w p) n
    → (neg_ℤ (half w) ≤ℤ n) × (n ≤ℤ (half w -ℤ pos 1))
signed_range w p n positive placed some = let t = (signed_has w p n positive placed).0 some in (t.0, omega (arith, ints, t.1))

pub unsigned_are : (w : ℕ) (p : Progression) → 1 ≤ w → IsPlaced w p
    → ArePieces (pos 0) (full w -ℤ pos 1) (unsigned_pieces w p)
unsigned_are w p positive placed =
    let is = placed.progression in
    record {
      first = within (pos 0) (full w -ℤ pos 1) (moved_part (full w) (up_to (neg_ℤ (pos 1)) p)) (moved_part_is (full w) (up_to (neg_ℤ (pos 1)) p) (up_to_is (neg_ℤ (pos 1)) p is)) (λ n h. unsigned_range w p n positive placed (inl h));
      second = within (pos 0) (full w -ℤ pos 1) (between (pos 0) (full w -ℤ pos 1) p) (between_is (pos 0) (full w -ℤ pos 1) p is) (λ n h. unsigned_range w p n positive placed (inr (inl h)));
      third = within (pos 0) (full w -ℤ pos 1) (moved_part (neg_ℤ (full w)) (from_least (full w) p)) (moved_part_is (neg_ℤ (full w)) (from_least (full w) p) (from_least_is (full w) p is)) (λ n h. unsigned_range w p n positive placed (inr (inr h)));
    }

pub signed_are : (w : ℕ) (p : Progression) → 1 ≤ w → IsPlaced w p
    → ArePieces (neg_ℤ (half w)) (half w -ℤ pos 1) (signed_pieces w p)
signed_are w p positive placed =
    let is = placed.progression in
    record {
      first = within (neg_ℤ (half w)) (half w -ℤ pos 1) (up_to (half w -ℤ pos 1) p) (up_to_is (half w -ℤ pos 1) p is) (λ n h. signed_range w p n positive placed (inl h));
      second = within (neg_ℤ (half w)) (half w -ℤ pos 1) (moved_part (neg_ℤ (full w)) (from_least (half w) p)) (moved_part_is (neg_ℤ (full w)) (from_least (half w) p) (from_least_is (half w) p is)) (λ n h. signed_range w p n positive placed (inr (inl h)));
      third = tt;
    }
